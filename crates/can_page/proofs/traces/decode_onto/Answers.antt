use Rattle.std.proofs.Common.{ap, Err, rules}
use Rattle.can_page.proofs.TraceLemmas.{bad_told}
use Rattle.can_page.proofs.traces.decode_onto.Goals as goal

pub returns-in-Err-BadByte-clause-bad : goal.returns-in-Err-BadByte-clause-bad
returns-in-Err-BadByte-clause-bad g c = λ _.
    let told = c.in-Err-BadByte.ensures.byte c.in-Err-BadByte.bad (ap Err c.in-Err-BadByte.field-0-is) in
    bad_told _ _ _ _ c.in-Err-BadByte.bad told.input told.output told.consumes c.requires.empty told.appends told.related

pub returns-in-Err-clause-whole : goal.returns-in-Err-clause-whole
returns-in-Err-clause-whole g c = search rules
