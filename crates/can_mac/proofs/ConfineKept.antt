-- What holds of every node's counters stays, whatever is counted and seen.
use Rattle.std.proofs.Common.{◌≡◌, ℕ, ◌+◌, ◌-◌, ◌<◌, ◌≤◌, Bool, true, false, refl, arith, cond}
use Rattle.std.specs.Prelude.{◌&&◌}
use Rattle.std.proofs.Math.Dec.{leb, ltb}
use Rattle.std.proofs.Math.Nat.{min-le_right}
use Rattle.std.proofs.lemmas.Bool.{cond_both, leb-true, leb-false, ltb-true}
use Rattle.can_frame.specs.declared.level.Level.{Level}
use Rattle.can_frame.specs.declared.level.Level.TheVariants.{Dominant, Recessive}
use Rattle.can_fault.specs.declared.cause.Cause.{Cause}
use Rattle.can_fault.specs.declared.cause.Cause.TheVariants.{ReceiverError, ReceiverFlagBit, ReceiverFirstDominant, ReceiverDominantRun, SenderError, SenderFlagBit, SenderDominantRun, PassiveUnacknowledged, FrameSent, FrameReceived}
use Rattle.can_fault.specs.Counters.{ConfineParts, IsConfine, changed, counted, fresh, rec_after_reception, receiver_raised, sender_raised}
use Rattle.can_fault.specs.Recovery.{after_level, recovered}

pub IsConfine-fresh : IsConfine fresh
IsConfine-fresh = record { tec = omega arith; rec = omega arith; occurrences = omega arith; row = omega arith; no_occurrences = λ h. refl; empty_row = λ h. refl }

module _ (c : ConfineParts) (h : IsConfine c) where
  module _ (on : c.tec < 256) where
    receiver_kept : (n : ℕ) → IsConfine (receiver_raised n c)
    receiver_kept n =
        let most = min-le_right (c.rec + n) 255 in
        record { tec = h.tec; rec = omega (arith, most); occurrences = h.occurrences; row = h.row; no_occurrences = h.no_occurrences; empty_row = h.empty_row }

    sender_kept : IsConfine (sender_raised 8 c)
    sender_kept = record { tec = omega arith; rec = h.rec; occurrences = h.occurrences; row = h.row; no_occurrences = λ e. h.no_occurrences on; empty_row = λ e. h.empty_row on }

    received_kept : rec_after_reception c.rec < 256
    received_kept =
        let P : ℕ → Type 0 = λ n. n < 256 in
        cond_both (leb 128 c.rec) 127 (c.rec - 1) P (λ e. omega arith) (λ e. let small : c.rec < 256 = h.rec in omega arith)

    changed_kept : (cause : Cause) → IsConfine (changed cause c)
    changed_kept ReceiverError = receiver_kept 1
    changed_kept ReceiverFlagBit = receiver_kept 8
    changed_kept ReceiverFirstDominant = receiver_kept 8
    changed_kept ReceiverDominantRun = receiver_kept 8
    changed_kept SenderError = sender_kept
    changed_kept SenderFlagBit = sender_kept
    changed_kept SenderDominantRun = sender_kept
    changed_kept PassiveUnacknowledged = sender_kept
    changed_kept FrameSent =
        record { tec = omega arith; rec = h.rec; occurrences = h.occurrences; row = h.row; no_occurrences = λ e. h.no_occurrences on; empty_row = λ e. h.empty_row on }
    changed_kept FrameReceived =
        record { tec = h.tec; rec = received_kept; occurrences = h.occurrences; row = h.row; no_occurrences = h.no_occurrences; empty_row = h.empty_row }

  pub IsConfine-counted : (cause : Cause) → IsConfine (counted cause c)
  IsConfine-counted cause =
      cond_both (leb 256 c.tec) c (changed cause c) IsConfine (λ e. h) (λ e. changed_kept (leb-false 256 c.tec e) cause)

  module _ (off : 256 ≤ c.tec) where
    level_kept : (x : Level) → (after_level x c).occurrences < 128 → IsConfine (after_level x c)
    level_kept Dominant few =
        record { tec = h.tec; rec = h.rec; occurrences = h.occurrences; row = omega arith; no_occurrences = λ e. absurd (omega arith); empty_row = λ e. refl }
    level_kept Recessive few =
        let longer : ConfineParts = record c { row = c.row + 1 } in
        let next : ConfineParts = record c { occurrences = c.occurrences + 1; row = 0 } in
        let P : ConfineParts → Type 0 = λ n. n.occurrences < 128 → IsConfine n in
        cond_both (ltb c.row 10) longer next P
        (λ e f. let short : c.row < 10 = ltb-true c.row 10 e in
        record { tec = h.tec; rec = h.rec; occurrences = h.occurrences; row = omega arith; no_occurrences = λ d. absurd (omega arith); empty_row = λ d. absurd (omega arith) })
        (λ e f. record { tec = h.tec; rec = h.rec; occurrences = f; row = omega arith; no_occurrences = λ d. absurd (omega arith); empty_row = λ d. refl })
        few

  pub IsConfine-recovered : (x : Level) → IsConfine (recovered x c)
  IsConfine-recovered x = by_tests (leb 256 c.tec) refl (leb 128 (after_level x c).occurrences) refl
    where
      by_tests : (off : Bool) → leb 256 c.tec ≡ off → (many : Bool) → leb 128 (after_level x c).occurrences ≡ many
          → IsConfine (cond off (cond (off && many) fresh (after_level x c)) c)
      by_tests true d true e = IsConfine-fresh
      by_tests true d false e = level_kept (leb-true 256 c.tec d) x (leb-false 128 (after_level x c).occurrences e)
      by_tests false d many e = h
