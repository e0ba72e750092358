use Rattle.can_bus.proofs.laws.a_run_without_offers_is_a_run.Goals as goal
use Rattle.std.proofs.Common.{[]}
use Rattle.can_bus.proofs.CallCases.{played-level, played-next}
use Rattle.can_bus.proofs.CallLemmas.{call_bus-run, call_level-run}

pub returns : goal.returns
returns c = record {
  bus = call_bus-run [];
  levels = call_level-run [];
  next = λ offers n bus. played-next offers bus n;
  next_level = λ offers t bus. played-level offers bus t;
}
