use Rattle.can_code.proofs.decoder.tail_of.Goals as goal

pub returns-in-Some-clause-tail : goal.returns-in-Some-clause-tail
returns-in-Some-clause-tail c = rw c.if-behind-eq0.true (c.in-Some.ensures.tail c.args.acked)
