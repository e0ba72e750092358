use Rattle.std.proofs.Common.{◌∙◌}
use Rattle.can_gates.proofs.Constants.{value-always}
use Rattle.can_gates_mac.proofs.PhaseMoves.{overload_flag_rows}
use Rattle.can_gates_mac.proofs.moves.flags.overload_flag.Goals as goal

pub returns : goal.returns
returns c = (
  c.first_row.ensures.0,
  λ v keeps.
      let made = c.first_row.ensures.1 v keeps in (
        made.0,
        λ n s waiting x k.
            let zero = c.of-zero.ensures v k.never in
            made.1 ∙ rw (value-always v k.never, k.recessive, k.below_5) (overload_flag_rows s n x _ _ _ (c.errs_in_flag-wrong.ensures v s _ waiting x k) (c.goes-on.ensures v s _ waiting x k _ k.next) (c.goes-ended.ensures v s _ waiting x k _ zero)),
      ),
)
