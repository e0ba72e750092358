use Rattle.can_bus.proofs.WirePlays.{bus-after, bus-level}
use Rattle.can_bus.proofs.wire_laws.a_bus_has_a_wire.Goals as goal

pub returns : goal.returns
returns c = record { level = bus-level; after = bus-after }
