use Rattle.std.proofs.Common.{◌∙◌}
use Rattle.can_terms.specs.declared.event.ErrorKind.TheVariants.{Bit, Form}
use Rattle.can_gates.proofs.Constants.{value-always}
use Rattle.can_gates_mac.proofs.PhaseMoves.{end_of_frame_rows}
use Rattle.can_gates_mac.proofs.moves.frame_end.end_of_frame.Goals as goal

pub returns : goal.returns
returns c = (
  c.first_row.ensures.0,
  λ v keeps.
      let made = c.first_row.ensures.1 v keeps in (
        made.0,
        λ r n s waiting x k.
            let zero = c.of-zero.ensures v k.never in
            let bit = c.of-bit.ensures v k.never in
            let form = c.of-form.ensures v k.never in
            let last = c.of-last.ensures v k.never in
            made.1 ∙ rw (value-always v k.never, k.sender, k.dominant, k.below_6, k.below_5, k.asks) (end_of_frame_rows s.passive s.role s.overloads r n x _ _ _ _ _ _ _ _ _ (c.errs-overridden.ensures v s _ waiting x k Bit bit) (c.goes-sends.ensures v s _ waiting x k _ k.next) (c.goes-sent.ensures v s _ waiting x k _ zero) (c.errs-wrong.ensures v s _ waiting x k Form form) (c.goes-overload.ensures v s _ waiting x k _ zero) (c.goes-on.ensures v s _ waiting x k _ k.next) (c.goes-received.ensures v s _ waiting x k _ last) (c.own_overload-own.ensures v s _ waiting x k) (c.goes-ended.ensures v s _ waiting x k _ zero)),
      ),
)
