use Rattle.std.proofs.Common.{true, false, arith}
use Rattle.can_code.proofs.WholeTail.{HearsTail-whole, acknowledged, unacknowledged}
use Rattle.can_code.proofs.decoder.whole_tail.Goals as goal

pub returns-in-509-clause-tail : goal.returns-in-509-clause-tail
returns-in-509-clause-tail c = λ before.
    let levels = c.levels_of-levels in
    HearsTail-whole c.args.digits.now c.in-Some.block.now levels.result.count levels.result.number before true c.in-Some.ensures.cases.same levels.ensures.within levels.ensures.digits
    (omega (arith, c.if-levels-lt-LAST_LEVEL.false)) (acknowledged levels.result.number (omega (arith, c.in-509.is)))

pub returns-in-511-clause-tail : goal.returns-in-511-clause-tail
returns-in-511-clause-tail c = λ before.
    let levels = c.levels_of-levels in
    HearsTail-whole c.args.digits.now c.in-Some.block.now levels.result.count levels.result.number before false c.in-Some.ensures.cases.same levels.ensures.within levels.ensures.digits
    (omega (arith, c.if-levels-lt-LAST_LEVEL.false)) (unacknowledged levels.result.number (omega (arith, c.in-511.is)))
