use Rattle.std.proofs.Common.{rules}
use Rattle.can_page.proofs.plain.PlainTime.of.Goals as goal

pub returns : goal.returns
returns c = search rules
