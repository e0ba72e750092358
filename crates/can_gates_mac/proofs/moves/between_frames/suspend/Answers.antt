use Rattle.std.proofs.Common.{◌∙◌}
use Rattle.can_mac.specs.declared.phase.Role.TheVariants.{Receiver}
use Rattle.can_gates.proofs.Constants.{value-never, value-always}
use Rattle.can_gates_mac.proofs.PhaseMoves.{suspend_rows}
use Rattle.can_gates_mac.proofs.moves.between_frames.suspend.Goals as goal

pub returns : goal.returns
returns c = (
  c.first_row.ensures.0,
  λ v keeps.
      let made = c.first_row.ensures.1 v keeps in (
        made.0,
        λ n s waiting x k.
            made.1 ∙ rw (value-always v k.never, k.dominant, k.below_7) (suspend_rows s n x _ _ _ (c.begins_frame-begun.ensures v s _ waiting x k Receiver (value-never v k.never)) (c.goes-on.ensures v s _ waiting x k _ k.next) (c.rests-ended.ensures v s _ waiting x k)),
      ),
)
