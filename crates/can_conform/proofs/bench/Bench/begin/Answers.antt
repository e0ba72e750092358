use Rattle.std.proofs.Common.{sym, ◌∙◌}
use Rattle.can_conform.proofs.RunLemmas.{before-first}
use Rattle.can_conform.proofs.bench.Bench.begin.Goals as goal

pub returns-clause-port : goal.returns-clause-port
returns-clause-port c = c.in_ok-node.ensures ∙ sym (before-first c.args.script.now)
