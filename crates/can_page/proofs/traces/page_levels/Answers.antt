use Rattle.can_page.proofs.TraceLemmas.{bad_byte}
use Rattle.can_page.proofs.traces.page_levels.Goals as goal

pub returns-in-Err-clause-bad : goal.returns-in-Err-clause-bad
returns-in-Err-clause-bad c = λ _.
    bad_byte c.args.text.now c.loop-index.levels c.loop-index.written c.loop-index.index c.loop-index.invariant.read c.loop-index-test.true c.in-Err.ensures.bad
