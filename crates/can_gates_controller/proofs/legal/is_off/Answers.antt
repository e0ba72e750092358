use Rattle.std.proofs.Common.{sym}
use Rattle.can_gates_mac.proofs.Counts.{top_is}
use Rattle.can_gates_controller.proofs.legal.is_off.Goals as goal

pub returns : goal.returns
returns c = λ v zero_is. sym (top_is v zero_is c.args.counters.now.tec 8 c.args.counters.now.widths.0)
