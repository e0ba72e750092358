use Rattle.can_stream.proofs.LineLemmas.{is_end, position-first}
use Rattle.can_stream.proofs.lines.first_end.Goals as goal

pub returns : goal.returns
returns c = position-first is_end c.args.bytes.now c.memchr.result c.memchr.ensures
