use Rattle.std.proofs.Common.{◌∙◌, ap, arith}
use Rattle.can_frame.specs.Levels.{level_from}
use Rattle.can_bus.specs.Wired.{wired}
use Rattle.can_frame.proofs.LevelTests.{level_told}
use Rattle.can_bus.proofs.WiredLemmas.{lanes_wired}
use Rattle.can_bus.proofs.wire.wired_lanes.Goals as goal

pub returns : goal.returns
returns c =
    c.from_bool.ensures
    ∙ ap level_from (lanes_wired c.args.levels.now c.lanes.result 32 c.lanes.ensures.lanes c.lanes.ensures.whole (omega arith))
    ∙ level_told (wired c.args.levels.now)
