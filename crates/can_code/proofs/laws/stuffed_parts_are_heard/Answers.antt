use Rattle.std.proofs.Common.{[], ◌∷◌}
use Rattle.can_frame.specs.declared.level.Level.TheVariants.{Dominant}
use Rattle.can_code.specs.Front.{first_front}
use Rattle.can_code.proofs.FrontsOf.{IsFrontOf-first_front, IsFrontOf-part}
use Rattle.can_code.proofs.HeardLevels.{heard_levels-part, heard_levels-front}
use Rattle.can_code.proofs.laws.stuffed_parts_are_heard.Goals as goal

pub returns : goal.returns
returns c = record {
  exists = λ u b complete stuffs. heard_levels-part b (Dominant ∷ []) u first_front IsFrontOf-first_front (record { complete = complete; stuffs = stuffs });
  only = λ b f heard ended.
      let part = IsFrontOf-part (Dominant ∷ b) f (heard_levels-front b (Dominant ∷ []) first_front f IsFrontOf-first_front heard) ended in
      (part.complete, part.stuffs);
}
