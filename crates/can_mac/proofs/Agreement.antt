-- The CRC sequence agrees exactly if the generator divides the levels, and a receiver of a whole stuffed part finds this at the CRC
-- delimiter.
use Rattle.std.proofs.Common.{◌≡◌, ℕ, zero, suc, ◌+◌, ◌-◌, ◌<◌, ◌≤◌, true, Option, None, List, ◌++◌, length, take, [], ◌∷◌, ◌↔◌, refl, sym, ◌∙◌, ap, subst, arith}
use Rattle.std.proofs.lemmas.Bool.{cond-true, cond-false}
use Rattle.std.proofs.lemmas.List.{length-drop, take-append-drop}
use Rattle.can_frame.specs.declared.level.Level.{Level}
use Rattle.can_frame.specs.declared.level.Level.TheVariants.{Dominant}
use Rattle.can_frame.specs.Parts.{Parts}
use Rattle.can_wire.specs.Crc.{Multiple}
use Rattle.can_wire.specs.Layout.{level_at, frame_len, head_of, check_of, IsPart}
use Rattle.can_code.specs.Front.{FrontParts, first_front}
use Rattle.can_wire.proofs.LayoutLengths.{frame_len_ge}
use Rattle.can_code.proofs.PartFronts.{front_made, part-going, part-no_error, part-next, part-ended, part-unstuffed}
use Rattle.can_code.proofs.StuffedParts.{IsPart-length}
use Rattle.can_mac.specs.declared.phase.Overloads.{Overloads}
use Rattle.can_mac.specs.declared.phase.Role.TheVariants.{Receiver}
use Rattle.can_mac.specs.declared.phase.Phase.TheVariants.{Idle, StuffedPart, CrcDelimiter}
use Rattle.can_mac.specs.State.{MacPhase, MacState}
use Rattle.can_mac.specs.Moves.{agrees, part_phase, reading_of, ends_part}
use Rattle.can_mac.specs.Machine.{mac_step}
use Rattle.can_mac.specs.Frames.{state_after}
use Rattle.can_mac.proofs.PartEnds.{agrees-Decides, ends_part-ended, ends_part-partial}
use Rattle.can_mac.proofs.FrameParts.{part_state, step-hears}

-- a list with its whole CRC sequence has the fifteen levels of one
long_enough : (u : List Level) → length u ≡ frame_len u → 15 ≤ length u
long_enough u whole = omega (arith, frame_len_ge u, whole)

pub agrees-Multiple : (u : List Level) → length u ≡ frame_len u → agrees u ≡ true ↔ Multiple u
agrees-Multiple u whole =
    let long = long_enough u whole in
    let parts : head_of u ++ check_of u ≡ u = take-append-drop (length u - 15) u in
    let size : length (check_of u) ≡ 15 = omega (arith, length-drop (length u - 15) u) in
    let decides = agrees-Decides u in (
      λ agreed. subst Multiple parts (decides.0 agreed).divides,
      λ divided. decides.1 (record { length = size; divides = subst Multiple (sym parts) divided }),
    )

-- a receiver hears a whole stuffed part, level by level
module _ (u b : List Level) (part : IsPart u b) where
  part-start : level_at b 0 ≡ Dominant
  part-start = from_start b part
    where
      from_start : (b : List Level) → IsPart u b → level_at b 0 ≡ Dominant
      from_start [] part = absurd (omega (arith, IsPart-length u [] part))
      from_start (x ∷ b) part = ap (λ z. level_at z 0) part.stuffs.rest ∙ part.complete.start

  abbrev front : ℕ → FrontParts
  front o = front_made (take o b)

  front-first : front 1 ≡ first_front
  front-first = nothing_more b
    where
      nothing_more : (b : List Level) → front_made (take 1 b) ≡ first_front
      nothing_more [] = refl
      nothing_more (x ∷ b) = refl

  module _ (m : MacState) (waits : ℕ → Option Parts) (idle : m.phase ≡ Idle) (none : waits 0 ≡ None) where
    abbrev wishes : Overloads
    wishes = record { pending = m.overloads.pending; used = 0 }

    abbrev hearing : MacPhase → MacState
    hearing phase = part_state phase Receiver wishes m.counters

    begins : (mac_step m None Dominant).0 ≡ hearing (StuffedPart first_front)
    unfolding mac_step
    begins = ap (λ p. (mac_step (part_state p m.role m.overloads m.counters) None Dominant).0) idle

    going : (o : ℕ) → 0 < o → o < length b → part_phase (front o) ≡ StuffedPart (front o)
    going o some more = cond-false (ends_part (front o)) _ _ (ends_part-partial (front o) (part-going u b part o some more))

    run : (o : ℕ) → suc o ≤ length b → state_after m waits b (suc o) ≡ hearing (part_phase (front (suc o)))
    run zero within =
        ap (λ x. (mac_step m (waits 0) x).0) part-start
        ∙ ap (λ w. (mac_step m w Dominant).0) none
        ∙ begins
        ∙ ap (λ f. hearing (StuffedPart f)) (sym front-first)
        ∙ ap hearing (sym (going 1 (omega arith) (omega (arith, IsPart-length u b part))))
    run (suc o) within =
        let n = suc o in
        let some : 0 < n = omega arith in
        let x = level_at b n in
        let one_more : n + 1 ≡ suc n = omega arith in
        ap (λ s. (mac_step s (waits n) x).0) (run o (omega (arith, within)) ∙ ap hearing (going n some within))
        ∙ ap (λ r. r.0) (step-hears (front n) wishes m.counters (waits n) Receiver x (part-no_error u b part n some within) tt)
        ∙ ap (λ f. hearing (part_phase f)) (sym (part-next u b part n some within) ∙ ap front one_more)

    -- the CRC delimiter comes next
    pub heard-part : (state_after m waits b (length b)).phase ≡ CrcDelimiter (reading_of u)
    heard-part =
        let some : 0 < length b = omega (arith, IsPart-length u b part) in
        let last : suc (length b - 1) ≡ length b = omega (arith, some) in
        ap (λ o. (state_after m waits b o).phase) (sym last)
        ∙ ap (λ s. s.phase) (run (length b - 1) (omega (arith, some)))
        ∙ ap (λ o. part_phase (front o)) last
        ∙ cond-true (ends_part (front (length b))) _ _ (ends_part-ended (front (length b)) (part-ended u b part))
        ∙ ap (λ v. CrcDelimiter (reading_of v)) (part-unstuffed u b part)
