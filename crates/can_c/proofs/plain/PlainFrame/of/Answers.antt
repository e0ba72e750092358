use Rattle.std.proofs.Common.{rules}
use Rattle.can_c.proofs.FrameLemmas.{few_bytes}
use Rattle.can_c.proofs.plain.PlainFrame.of.Goals as goal

pub returns : goal.returns
returns c = search (few_bytes, rules)
