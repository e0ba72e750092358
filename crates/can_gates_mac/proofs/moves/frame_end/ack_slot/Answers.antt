use Rattle.std.proofs.Common.{◌∙◌}
use Rattle.std.proofs.Common.{refl}
use Rattle.can_terms.specs.declared.event.ErrorKind.TheVariants.{Bit, Ack}
use Rattle.can_gates.proofs.Constants.{value-always}
use Rattle.can_gates_mac.proofs.PhaseMoves.{ack_slot_rows}
use Rattle.can_gates_mac.proofs.moves.frame_end.ack_slot.Goals as goal

pub returns : goal.returns
returns c = (
  c.first_row.ensures.0,
  λ v keeps.
      let made = c.first_row.ensures.1 v keeps in (
        made.0,
        λ r s waiting x k.
            let zero = c.of-zero.ensures v k.never in
            let bit = c.of-bit.ensures v k.never in
            let ack = c.of-ack.ensures v k.never in
            made.1 ∙ rw (value-always v k.never, k.sender, k.dominant, k.passive, k.recessive, k.agrees r refl) (ack_slot_rows s.passive s.role s.overloads r x _ _ _ _ _ _ (c.goes-acknowledged.ensures v s _ waiting x k _ zero) (c.lacks_acknowledgement-passive.ensures v s _ waiting x k) (c.errs-alone.ensures v s _ waiting x k Ack ack) (c.goes-received.ensures v s _ waiting x k _ zero) (c.errs-unheard.ensures v s _ waiting x k Bit bit) (c.goes-listens.ensures v s _ waiting x k _ zero)),
      ),
)
