-- An error of an error active controller: it is counted, and an active error flag starts.
use Rattle.std.proofs.Common.{◌≡◌, ◌<◌, false, Option, Some, sym, ◌∙◌, ap, subst, arith}
use Rattle.std.proofs.Math.Dec.{leb}
use Rattle.std.proofs.lemmas.Bool.{cond-false, leb-true, false_from_ne_true}
use Rattle.can_fault.specs.Counters.{ConfineParts, changed, counted, is_bus_off}
use Rattle.can_terms.specs.declared.event.Event.{Event}
use Rattle.can_terms.specs.declared.event.Event.TheVariants.{Error}
use Rattle.can_terms.specs.declared.event.ErrorKind.{ErrorKind}
use Rattle.can_mac.specs.declared.phase.Overloads.{Overloads}
use Rattle.can_mac.specs.declared.phase.Role.{Role}
use Rattle.can_mac.specs.declared.phase.Role.TheVariants.{Receiver, Sender}
use Rattle.can_mac.specs.declared.phase.Phase.TheVariants.{ErrorFlag}
use Rattle.can_mac.specs.State.{MacPhase, MacState}
use Rattle.can_mac.specs.Moves.{MacMove, errs, error_cause, flag}
use Rattle.can_mac.specs.Machine.{on_step, stance, state_after_move}
use Rattle.can_mac.specs.Frames.{IsActive}
use Rattle.can_mac.proofs.FrameEnds.{active-on, active-not_passive}
use Rattle.can_mac.proofs.FrameParts.{part_state}

-- after one error an error active controller is not bus off
low-on : (c : ConfineParts) → c.tec < 256 → is_bus_off c ≡ false
low-on c low = false_from_ne_true (leb 256 c.tec) (λ e. omega (arith, leb-true 256 c.tec e, low))

changed-low : (role : Role) (c : ConfineParts) → IsActive c → (changed (error_cause role) c).tec < 256
changed-low Receiver c active = omega (arith, active.tec)
changed-low (Sender f) c active = omega (arith, active.tec)

module _ (role : Role) (c : ConfineParts) (active : IsActive c) where
  counted-on : is_bus_off (counted (error_cause role) c) ≡ false
  counted-on = subst (λ d. is_bus_off d ≡ false) (sym (cond-false (is_bus_off c) c (changed (error_cause role) c) (active-on c active))) (low-on (changed (error_cause role) c) (changed-low role c active))

  -- the error is reported
  pub errs-lands : (phase : MacPhase) (o : Overloads) (kind : ErrorKind)
      → on_step (part_state phase role o c) (errs (stance (part_state phase role o c)) kind) ≡ (part_state (ErrorFlag 0) role o (counted (error_cause role) c), Some (Error kind))
  errs-lands phase o kind =
      let v : MacMove = errs (stance (part_state phase role o c)) kind in
      let new = counted (error_cause role) c in
      let r : MacState × Option Event = (state_after_move v new, v.event) in
      cond-false (is_bus_off new) _ r counted-on
      ∙ ap (λ b. let m : MacState × Option Event = (part_state (flag b false) role o new, Some (Error kind)) in m) (active-not_passive c active)
