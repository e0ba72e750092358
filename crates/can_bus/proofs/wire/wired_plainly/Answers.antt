use Rattle.std.proofs.Common.{◌≡◌, true, false, get_or, rules, sym, ◌∙◌}
use Rattle.can_frame.specs.declared.level.Level.TheVariants.{Dominant}
use Rattle.can_bus.specs.Wired.{wired}
use Rattle.can_bus.proofs.WiredLemmas.{wired_is, wired_one, one_dominant, one_recessive, all_passed, wired_empty}
use Rattle.can_bus.proofs.wire.wired_plainly.Goals as goal

pub returns-then-not-is_recessive : goal.returns-then-not-is_recessive
returns-then-not-is_recessive c =
    let low : c.is_recessive.result ≡ false = search rules in
    let here = get_or c.args.levels.now c.loop-level.level-index Dominant in
    one_dominant wired wired_is c.args.levels.now c.loop-level.level-index Dominant here c.loop-level-test.true c.loop-level.invariant (wired_one here) (sym c.is_recessive.ensures ∙ low)

pub loop-level-preserved : goal.loop-level-preserved
loop-level-preserved c =
    let high : c.is_recessive.result ≡ true = search rules in
    let here = get_or c.args.levels.now c.loop-level.level-index Dominant in
    one_recessive wired wired_is c.args.levels.now c.loop-level.level-index Dominant here c.loop-level-test.true c.loop-level.invariant (wired_one here) (sym c.is_recessive.ensures ∙ high)

pub returns : goal.returns
returns c = all_passed wired c.args.levels.now c.loop-level.level-index wired_empty c.loop-level-test.false c.loop-level.invariant
