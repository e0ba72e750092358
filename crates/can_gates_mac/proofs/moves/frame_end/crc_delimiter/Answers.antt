use Rattle.std.proofs.Common.{◌∙◌}
use Rattle.can_gates.proofs.Constants.{value-always}
use Rattle.can_gates_mac.proofs.PhaseMoves.{crc_delimiter_rows}
use Rattle.can_gates_mac.proofs.moves.frame_end.crc_delimiter.Goals as goal

pub returns : goal.returns
returns c = (
  c.first_row.ensures.0,
  λ v keeps.
      let made = c.first_row.ensures.1 v keeps in (
        made.0,
        λ r s waiting x k.
            let zero = c.of-zero.ensures v k.never in
            made.1 ∙ rw (value-always v k.never, k.recessive) (crc_delimiter_rows s r x _ _ (c.goes-on.ensures v s _ waiting x k _ zero) (c.errs_in_form-wrong.ensures v s _ waiting x k)),
      ),
)
