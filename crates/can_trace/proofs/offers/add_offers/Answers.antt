use Rattle.std.proofs.Common.{arith}
use Rattle.std.proofs.lemmas.Grind.{common_steps}
use Rattle.can_trace.proofs.offers.add_offers.Goals as goal

pub loop-timed-preserved : goal.loop-timed-preserved
loop-timed-preserved c = grind (arith, common_steps)
