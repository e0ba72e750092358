use Rattle.std.proofs.Common.{◌∙◌}
use Rattle.std.specs.Prelude.{Some}
use Rattle.can_fault.specs.declared.cause.Cause.TheVariants.{SenderError}
use Rattle.can_terms.specs.declared.event.ErrorKind.TheVariants.{Bit}
use Rattle.can_mac.specs.declared.phase.Role.TheVariants.{Receiver, Sender}
use Rattle.can_gates.proofs.Constants.{value-never, value-always}
use Rattle.can_gates_mac.proofs.PhaseMoves.{idle_rows}
use Rattle.can_gates_mac.proofs.moves.between_frames.idle.Goals as goal

pub returns : goal.returns
returns c = (
  c.first_row.ensures.0,
  λ v keeps.
      let made = c.first_row.ensures.1 v keeps in (
        made.0,
        λ s waiting x k.
            let zero = c.of-zero.ensures v k.never in
            let cause = c.of-cause.ensures v k.never in
            let kind = c.of-kind.ensures v k.never in
            made.1 ∙ rw (value-always v k.never, k.dominant, k.waits) (idle_rows s waiting x _ _ _ _ (λ f. c.begins_frame-own.ensures v s _ waiting x k (Sender f) (value-always v k.never)) (c.begins_frame-other.ensures v s _ waiting x k Receiver (value-never v k.never)) (λ f. c.errs_by-unheard.ensures v s _ waiting x k (Sender f) (Some SenderError) Bit (value-always v k.never) cause kind) (c.goes-stays.ensures v s _ waiting x k _ zero)),
      ),
)
