use Rattle.std.proofs.Common.{arith}
use Rattle.std.proofs.lemmas.List.{take_more_set}
use Rattle.can_wire.proofs.StuffSteps.{LaysOut-begin}
use Rattle.can_wire.proofs.stuff_steps.Stuffing.begin.Goals as goal

pub returns : goal.returns
returns c =
    LaysOut-begin _ c.row_of.result c.args.first (take_more_set c.args.levels.now 0 c.args.first (omega (arith, c.told-levels)))
    c.row_of.ensures.small c.row_of.ensures.last c.row_of.ensures.run
