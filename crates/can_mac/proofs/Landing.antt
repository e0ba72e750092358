-- The effect of a bit time on a controller, from its fields: a move, and its next state.
use Rattle.std.proofs.Common.{◌≡◌, ◌≤◌, Bool, true, false, IsTrue, IsFalse, Option, Some, None, refl, sym, ◌∙◌, ap, subst, arith, cond}
use Rattle.std.proofs.Math.Dec.{leb}
use Rattle.std.proofs.lemmas.Bool.{cond-true, cond-false, le-leb, leb-true, or_left}
use Rattle.can_frame.specs.declared.level.Level.{Level}
use Rattle.can_frame.specs.declared.level.Level.TheVariants.{Dominant}
use Rattle.can_frame.specs.Parts.{Parts}
use Rattle.can_fault.specs.declared.state.State.TheVariants.{Active, Passive, BusOff as off_state}
use Rattle.can_fault.specs.Counters.{ConfineParts, is_bus_off, is_passive, state_of}
use Rattle.can_mac.specs.declared.moves.Move.{Move}
use Rattle.can_mac.specs.declared.moves.Stance.{Stance}
use Rattle.can_mac.specs.declared.phase.Role.TheVariants.{Receiver}
use Rattle.can_mac.specs.declared.phase.Phase.TheVariants.{BusOff}
use Rattle.can_mac.specs.State.{MacPhase, MacState, IsMac, IsFrameOrNone, is_off_phase}
use Rattle.can_mac.specs.Moves.{MacMove, begins_frame, goes, idle_move, move, move_keeping, next_role}
use Rattle.can_mac.specs.Machine.{step_counting, mac_step, off_step, on_step, stance}
use Rattle.can_mac.proofs.Kept.{on_kept}

-- the state of a controller that goes off the bus
abbrev pub gone : MacMove → ConfineParts → MacState
gone v c = record { phase = BusOff; role = Receiver; overloads = v.overloads; counters = c }

-- The next state after the move of a level, of a controller with these fields that is not bus off.
module _ (m : MacState) (h : IsMac m) (on : is_off_phase m.phase ≡ false) (waiting : Option Parts) (whole : IsFrameOrNone waiting) (x : Level) where
  pub lands-IsMac : (passive : Bool) → passive ≡ is_passive m.counters → (kept : MacPhase) (next : Move (Option MacPhase))
      → move_keeping kept next ≡ move (record { passive = passive; role = m.role; overloads = m.overloads }) m.phase waiting x
      → (s : MacState) → s ≡ (step_counting (move_keeping kept next) m.counters next.cause).0 → IsMac s
  lands-IsMac passive told kept next is s landed =
      let same_move : move_keeping kept next ≡ move (stance m) m.phase waiting x =
      subst (λ p. move_keeping kept next ≡ move (record { passive = p; role = m.role; overloads = m.overloads }) m.phase waiting x) told is in
      subst IsMac (sym (landed ∙ ap (λ v. (step_counting v m.counters v.cause).0) same_move)) (on_kept m h waiting x on whole)

-- A controller whose fields are these, and which it is from outside.
module _ (m now : MacState) (view : m ≡ now) (h : IsMac m) (on : is_off_phase now.phase ≡ false) (waiting : Option Parts) (whole : IsFrameOrNone waiting) (x : Level) where
  -- if a level only changes the phase
  module _ (p : MacPhase) (is : (s : Stance) → s.role ≡ m.role → move s m.phase waiting x ≡ goes s p) where
    pub goes-on : (record { phase = p; role = m.role; overloads = m.overloads; counters = m.counters }, None) ≡ on_step now (move (stance now) now.phase waiting x)
    goes-on = ap (on_step m) (sym (is (stance m) refl)) ∙ ap (λ n. on_step n (move (stance n) n.phase waiting x)) view

    pub goes-on-IsMac : IsMac (record { phase = p; role = m.role; overloads = m.overloads; counters = m.counters })
    goes-on-IsMac = subst (λ r. IsMac r.0) (sym goes-on) (on_kept now (subst IsMac view h) waiting x on whole)

-- a level that only changes the phase if it passes, and otherwise changes nothing
pub passes-IsMac : (m : MacState) → IsMac m → (waiting : Option Parts) → IsFrameOrNone waiting → (x : Level) (passed : Bool) (p : MacPhase)
    → (IsTrue passed → (s : Stance) → s.role ≡ m.role → move s m.phase waiting x ≡ goes s p)
    → (IsTrue passed → is_off_phase m.phase ≡ false)
    → (IsFalse passed → p ≡ m.phase)
    → IsMac (record { phase = p; role = m.role; overloads = m.overloads; counters = m.counters })
passes-IsMac m h waiting whole x true p is on same = goes-on-IsMac m m refl h (on refl) waiting whole x p (is refl)
passes-IsMac m h waiting whole x false p is on same = rw (same refl) h

-- an idle controller takes part in a frame that begins, as one does in the last bit of intermission
pub idle_begins : (s : Stance) (waiting : Option Parts) → idle_move s waiting Dominant ≡ begins_frame s (next_role false waiting)
idle_begins s None = refl
idle_begins s (Some f) = refl

-- one bit time, off the bus and on it
pub step_off : (m : MacState) (waiting : Option Parts) (x : Level) → is_off_phase m.phase ≡ true → mac_step m waiting x ≡ off_step m x
unfolding mac_step
step_off m waiting x h = cond-true (is_off_phase m.phase) (off_step m x) (on_step m (move (stance m) m.phase waiting x)) h

pub step_on : (m : MacState) (waiting : Option Parts) (x : Level) → is_off_phase m.phase ≡ false → mac_step m waiting x ≡ on_step m (move (stance m) m.phase waiting x)
unfolding mac_step
step_on m waiting x h = cond-false (is_off_phase m.phase) (off_step m x) (on_step m (move (stance m) m.phase waiting x)) h

-- The controller's state decides whether it is error passive.
module _ (c : ConfineParts) where
  pub active_told : Active ≡ state_of c → false ≡ is_passive c
  active_told e = by_tests (is_bus_off c) (is_passive c) e
    where
      by_tests : (off passive : Bool) → Active ≡ cond off off_state (cond passive Passive Active) → false ≡ passive
      by_tests true passive e = cc
      by_tests false true e = cc
      by_tests false false e = refl

  pub passive_told : Passive ≡ state_of c → true ≡ is_passive c
  passive_told e = by_tests (is_bus_off c) (is_passive c) e
    where
      by_tests : (off passive : Bool) → Passive ≡ cond off off_state (cond passive Passive Active) → true ≡ passive
      by_tests true passive e = cc
      by_tests false true e = refl
      by_tests false false e = cc

  pub off_told : off_state ≡ state_of c → true ≡ is_passive c
  off_told e =
      let high : 256 ≤ c.tec = by_test (is_bus_off c) refl e in
      sym (or_left (leb 128 c.tec) (leb 128 c.rec) (le-leb 128 c.tec (omega arith)))
    where
      by_test : (off : Bool) → is_bus_off c ≡ off → off_state ≡ cond off off_state (cond (is_passive c) Passive Active) → 256 ≤ c.tec
      by_test true d e = leb-true 256 c.tec d
      by_test false d e = by_passive (is_passive c) e
        where
          by_passive : (passive : Bool) → off_state ≡ cond passive Passive Active → 256 ≤ c.tec
          by_passive true f = cc
          by_passive false f = cc
