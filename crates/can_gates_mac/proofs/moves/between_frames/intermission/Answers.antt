use Rattle.std.proofs.Common.{◌∙◌}
use Rattle.can_gates.proofs.Constants.{value-always}
use Rattle.can_gates_mac.proofs.PhaseMoves.{intermission_rows}
use Rattle.can_gates_mac.proofs.moves.between_frames.intermission.Goals as goal

pub returns : goal.returns
returns c = (
  c.first_row.ensures.0,
  λ v keeps.
      let made = c.first_row.ensures.1 v keeps in (
        made.0,
        λ n s waiting x k.
            let zero = c.of-zero.ensures v k.never in
            made.1 ∙ rw (value-always v k.never, k.dominant, k.below_2, k.held_back) (intermission_rows s n waiting x _ _ _ _ _ (c.goes-overload.ensures v s _ waiting x k _ zero) (λ role starts. c.begins_frame-begun.ensures v s _ waiting x k role (k.starts ∙ starts)) (c.goes-on.ensures v s _ waiting x k _ k.next) (c.goes-waits.ensures v s _ waiting x k _ zero) (c.rests-ended.ensures v s _ waiting x k)),
      ),
)
