use Rattle.std.proofs.Common.{◌∷◌, take}
use Rattle.can_frame.specs.declared.level.Level.TheVariants.{Dominant}
use Rattle.can_code.specs.Decoder.{HasHeard}
use Rattle.can_code.proofs.decoding.decode.Given as goal

-- the decoder has received the start of frame and the levels so far
abbrev pub invariant-loop-before : goal.invariant-loop-before
invariant-loop-before l = HasHeard l.decoder (Dominant ∷ take l.before l.rest)
