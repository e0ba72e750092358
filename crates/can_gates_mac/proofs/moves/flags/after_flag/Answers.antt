use Rattle.std.proofs.Common.{◌∙◌}
use Rattle.can_gates.proofs.Constants.{value-always}
use Rattle.can_gates_mac.proofs.PhaseMoves.{after_flag_rows}
use Rattle.can_gates_mac.proofs.moves.flags.after_flag.Goals as goal

pub returns : goal.returns
returns c = (
  c.first_row.ensures.0,
  λ v keeps.
      let made = c.first_row.ensures.1 v keeps in (
        made.0,
        λ first n s waiting x k.
            let zero = c.of-zero.ensures v k.never in
            let one = c.of-one.ensures v k.never in
            made.1 ∙ rw (value-always v k.never, k.recessive, k.first, k.below_7, k.receiver) (after_flag_rows s.passive s.role s.overloads first n x _ _ _ _ _ (c.goes-ended.ensures v s _ waiting x k _ one) (c.goes-heard.ensures v s _ waiting x k _ k.next) (c.goes-on.ensures v s _ waiting x k _ k.next) (c.goes-counted.ensures v s _ waiting x k _ zero) (c.goes-blamed.ensures v s _ waiting x k _ zero)),
      ),
)
