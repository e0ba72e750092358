use Rattle.can_bus.proofs.Shifts.{bus-later, level-later, refused-as-many, waits-recessive}
use Rattle.can_bus.proofs.network_laws.a_call_can_be_shifted.Goals as goal

pub returns : goal.returns
returns c = record {
  waits = λ d offers hits. waits-recessive d hits offers;
  levels = λ d offers hits. level-later d hits offers;
  bus = λ d offers hits. bus-later d hits offers;
  refused = λ d offers hits. refused-as-many d hits offers;
}
