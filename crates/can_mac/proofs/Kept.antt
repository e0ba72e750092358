-- One bit time keeps what holds of every controller.
use Rattle.std.proofs.Common.{◌≡◌, ℕ, ◌+◌, ◌≤◌, true, false, Option, Some, None, refl, sym, ◌∙◌, ap, arith, cond}
use Rattle.std.proofs.Math.Dec.{leb, ltb}
use Rattle.std.proofs.lemmas.Bool.{cond_both, cond-true, cond-false}
use Rattle.can_frame.specs.declared.level.Level.{Level}
use Rattle.can_frame.specs.declared.level.Level.TheVariants.{Dominant, Recessive}
use Rattle.can_frame.specs.Parts.{Parts}
use Rattle.can_fault.specs.declared.cause.Cause.{Cause}
use Rattle.can_fault.specs.Counters.{ConfineParts, IsConfine, counted, fresh, is_bus_off}
use Rattle.can_fault.specs.Recovery.{after_level, ends_bus_off, recovered}
use Rattle.can_terms.specs.declared.event.Event.{Event}
use Rattle.can_terms.specs.declared.event.Event.TheVariants.{WentOff, Recovered}
use Rattle.can_mac.specs.declared.phase.Role.TheVariants.{Receiver}
use Rattle.can_mac.specs.declared.phase.Phase.TheVariants.{Joining, Idle, BusOff}
use Rattle.can_mac.specs.State.{MacPhase, MacState, IsMac, IsPhase, IsFrameOrNone, idle, is_off_phase, joining, starting}
use Rattle.can_mac.specs.Moves.{MacMove, move}
use Rattle.can_mac.specs.Machine.{holding, step_counting, mac_step, state_after_move, off_step, on_step, stance}
use Rattle.can_mac.proofs.ConfineKept.{IsConfine-fresh, IsConfine-counted, IsConfine-recovered}
use Rattle.can_mac.proofs.KeptMoves.{IsKept, move_kept}

starting_kept : (p : MacPhase) → IsPhase p → is_off_phase p ≡ false → IsMac (starting p)
starting_kept p h on = record { phase = h; role = tt; pending = omega arith; used = omega arith; counters = IsConfine-fresh; off = on }

pub IsMac-idle : IsMac idle
IsMac-idle = starting_kept Idle tt refl

pub IsMac-joining : IsMac joining
IsMac-joining = starting_kept (Joining 0) (omega arith) refl

-- a move lands, whatever it counts
step_counting_kept : (v : MacMove) (c : ConfineParts) (cause : Option Cause) → IsKept v → IsConfine c → is_bus_off c ≡ false → IsMac (step_counting v c cause).0
step_counting_kept v c None k h on = record { phase = k.phase; role = k.role; pending = k.pending; used = k.used; counters = h; off = k.on ∙ sym on }
step_counting_kept v c (Some cause) k h on =
    let new = counted cause c in
    let gone : MacState × Option Event = (record { phase = BusOff; role = Receiver; overloads = v.overloads; counters = new }, Some WentOff) in
    let P : MacState × Option Event → Type 0 = λ n. IsMac n.0 in
    cond_both (is_bus_off new) gone (state_after_move v new, v.event) P
    (λ e. record { phase = tt; role = tt; pending = k.pending; used = k.used; counters = IsConfine-counted c h cause; off = sym e })
    (λ e. record { phase = k.phase; role = k.role; pending = k.pending; used = k.used; counters = IsConfine-counted c h cause; off = k.on ∙ sym e })

-- The counters of a controller that waits for recovery.
module _ (c : ConfineParts) (x : Level) (off : is_bus_off c ≡ true) where
  recovered-ended : ends_bus_off x c ≡ true → is_bus_off (recovered x c) ≡ false
  recovered-ended e =
      let ended = cond (ends_bus_off x c) fresh (after_level x c) in
      ap is_bus_off (cond-true (is_bus_off c) ended c off ∙ cond-true (ends_bus_off x c) fresh (after_level x c) e)

  recovered-waiting : ends_bus_off x c ≡ false → is_bus_off (recovered x c) ≡ true
  recovered-waiting e =
      let ended = cond (ends_bus_off x c) fresh (after_level x c) in
      ap is_bus_off (cond-true (is_bus_off c) ended c off ∙ cond-false (ends_bus_off x c) fresh (after_level x c) e)
      ∙ (ap (λ n. leb 256 n) (tec_stays x) ∙ off)
    where
      tec_stays : (y : Level) → (after_level y c).tec ≡ c.tec
      tec_stays Dominant = refl
      tec_stays Recessive =
          cond_both (ltb c.row 10) (record c { row = c.row + 1 }) (record c { occurrences = c.occurrences + 1; row = 0 }) (λ n. n.tec ≡ c.tec) (λ d. refl) (λ d. refl)

module _ (m : MacState) (h : IsMac m) where
  pub on_kept : (waiting : Option Parts) (x : Level) → is_off_phase m.phase ≡ false → IsFrameOrNone waiting → IsMac (on_step m (move (stance m) m.phase waiting x)).0
  on_kept waiting x on w =
      let v = move (stance m) m.phase waiting x in
      step_counting_kept v m.counters v.cause (move_kept (stance m) h.role h.pending h.used m.phase waiting x h.phase on w) h.counters (sym h.off ∙ on)

  pub off_kept : (x : Level) → is_off_phase m.phase ≡ true → IsMac (off_step m x).0
  off_kept x off =
      let c = m.counters in
      let bus_off : is_bus_off c ≡ true = sym h.off ∙ off in
      let ended : MacState = record m { phase = Idle; counters = recovered x c } in
      let waiting : MacState = record m { counters = recovered x c } in
      let P : MacState × Option Event → Type 0 = λ n. IsMac n.0 in
      cond_both (ends_bus_off x c) (ended, Some Recovered) (waiting, None) P
      (λ e. record { phase = tt; role = h.role; pending = h.pending; used = h.used; counters = IsConfine-recovered c h.counters x; off = sym (recovered-ended c x bus_off e) })
      (λ e. record { phase = h.phase; role = h.role; pending = h.pending; used = h.used; counters = IsConfine-recovered c h.counters x; off = off ∙ sym (recovered-waiting c x bus_off e) })

  pub holding_kept : (n : ℕ) → n ≤ 2 → IsMac (holding n m)
  holding_kept n few = record { phase = h.phase; role = h.role; pending = few; used = h.used; counters = h.counters; off = h.off }

  -- one bit time
  pub step_kept : (waiting : Option Parts) (x : Level) → IsFrameOrNone waiting → IsMac (mac_step m waiting x).0
  unfolding mac_step
  step_kept waiting x w =
      let P : MacState × Option Event → Type 0 = λ n. IsMac n.0 in
      cond_both (is_off_phase m.phase) (off_step m x) (on_step m (move (stance m) m.phase waiting x)) P (λ e. off_kept x e) (λ e. on_kept waiting x e w)
