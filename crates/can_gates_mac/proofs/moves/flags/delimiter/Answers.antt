use Rattle.std.proofs.Common.{◌∙◌}
use Rattle.can_terms.specs.declared.event.ErrorKind.TheVariants.{Form}
use Rattle.can_gates.proofs.Constants.{value-always}
use Rattle.can_gates_mac.proofs.PhaseMoves.{delimiter_rows}
use Rattle.can_gates_mac.proofs.moves.flags.delimiter.Goals as goal

pub returns : goal.returns
returns c = (
  c.first_row.ensures.0,
  λ v keeps.
      let made = c.first_row.ensures.1 v keeps in (
        made.0,
        λ n s waiting x k.
            let zero = c.of-zero.ensures v k.never in
            let form = c.of-form.ensures v k.never in
            made.1 ∙ rw (value-always v k.never, k.dominant, k.below_7, k.receiver, k.asks) (delimiter_rows s.passive s.role s.overloads n x _ _ _ _ _ (c.errs-wrong.ensures v s _ waiting x k Form form) (c.goes-overload.ensures v s _ waiting x k _ zero) (c.goes-on.ensures v s _ waiting x k _ k.next) (c.own_overload-own.ensures v s _ waiting x k) (c.goes-ended.ensures v s _ waiting x k _ zero)),
      ),
)
