use Rattle.std.proofs.Common.{arith, sym, ◌∙◌}
use Rattle.can_frame.specs.declared.level.Level.TheVariants.{Dominant}
use Rattle.can_bus.proofs.RestInFrames.{rest_run-all, rest_run-next}
use Rattle.can_bus.proofs.bus.passing.rest_behind.Goals as goal

pub loop-level-preserved : goal.loop-level-preserved
loop-level-preserved c =
    rest_run-next c.loop-level.last c.rest_after-last.result c.args.levels.now c.loop-level.level-index Dominant (omega arith) c.rest_after-last.ensures ∙ c.loop-level.invariant

pub returns : goal.returns
returns c = sym (rest_run-all c.loop-level.last c.args.levels.now c.loop-level.level-index (omega arith)) ∙ c.loop-level.invariant
