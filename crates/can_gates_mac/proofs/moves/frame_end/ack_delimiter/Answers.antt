use Rattle.std.proofs.Common.{◌∙◌}
use Rattle.std.proofs.Common.{refl}
use Rattle.can_terms.specs.declared.event.ErrorKind.TheVariants.{Crc}
use Rattle.can_gates.proofs.Constants.{value-always}
use Rattle.can_gates_mac.proofs.PhaseMoves.{ack_delimiter_rows}
use Rattle.can_gates_mac.proofs.moves.frame_end.ack_delimiter.Goals as goal

pub returns : goal.returns
returns c = (
  c.first_row.ensures.0,
  λ v keeps.
      let made = c.first_row.ensures.1 v keeps in (
        made.0,
        λ r s waiting x k.
            let zero = c.of-zero.ensures v k.never in
            let crc = c.of-crc.ensures v k.never in
            made.1 ∙ rw (value-always v k.never, k.dominant, k.refuses, k.agrees r refl) (ack_delimiter_rows s.passive s.role s.overloads r x _ _ _ (c.errs_in_form-wrong.ensures v s _ waiting x k) (c.errs-differs.ensures v s _ waiting x k Crc crc) (c.goes-on.ensures v s _ waiting x k _ zero)),
      ),
)
