use Rattle.can_detection.proofs.FixedForm.{IsCodeFault-inverted, Spells-other_slot, Spells-other_last}
use Rattle.can_detection.proofs.laws.wrong_fixed_levels_are_noticed.Goals as goal

pub returns : goal.returns
returns c = record {
  fault = λ h w rest k spelled few other. IsCodeFault-inverted h w spelled rest k few other;
  ack_slot = Spells-other_slot;
  last = Spells-other_last;
}
