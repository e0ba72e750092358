use Rattle.std.proofs.Common.{◌≡◌, true, false, rules, sym, ap, ◌∙◌}
use Rattle.can_frame.specs.Levels.{is_recessive}
use Rattle.can_c.proofs.WireLemmas.{all-recessive, dominant-here, recessive-here}
use Rattle.can_c.proofs.plain_wire.wired.Goals as goal

pub returns-then-not-is_recessive : goal.returns-then-not-is_recessive
returns-then-not-is_recessive c =
    let low : c.is_recessive.result ≡ false = search rules in
    dominant-here c.args.drives.now c.loop-code.code-index 0 c.loop-code-test.true c.loop-code.invariant (sym (c.is_recessive.ensures ∙ ap is_recessive c.from_code.ensures) ∙ low)

pub loop-code-preserved : goal.loop-code-preserved
loop-code-preserved c =
    let high : c.is_recessive.result ≡ true = search rules in
    recessive-here c.args.drives.now c.loop-code.code-index 0 c.loop-code-test.true c.loop-code.invariant (sym (c.is_recessive.ensures ∙ ap is_recessive c.from_code.ensures) ∙ high)

pub returns : goal.returns
returns c = all-recessive c.args.drives.now c.loop-code.code-index c.loop-code-test.false c.loop-code.invariant
