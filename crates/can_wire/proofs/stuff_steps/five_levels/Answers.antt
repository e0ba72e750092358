use Rattle.std.proofs.Common.{ap, ◌∙◌, arith}
use Rattle.can_frame.specs.Levels.{bits_of}
use Rattle.can_wire.proofs.StuffSteps.{five_levels}
use Rattle.can_wire.proofs.stuff_steps.five_levels.Goals as goal

pub returns : goal.returns
returns c = five_levels c.from.result _ (omega (arith, c.from.ensures, c.requires)) ∙ ap (bits_of 5) c.from.ensures
