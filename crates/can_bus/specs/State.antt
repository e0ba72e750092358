-- A bus as contracts describe it. (docs/BUS.md, "The bus")
use Rattle.std.specs.Prelude.{ℕ, List, length, map}
use Rattle.can_node.specs.Ports.{PortState}
use Rattle.can_bus.specs.declared.bus.Bus.{Bus}
use Rattle.can_bus.specs.Run.{BusState}

-- its ports, in order
abbrev pub ports_in : {P : Type 0} → Bus P → List P
ports_in bus = bus.ports.items

-- the number of its ports
abbrev pub port_count : {P : Type 0} → Bus P → ℕ
port_count bus = length bus.ports.items

-- the states of its ports
abbrev pub port_states : {P : Type 0} → (P → PortState) → Bus P → List PortState
port_states port bus = map port bus.ports.items

-- the number of recessive levels recorded last in a row, at most eleven
abbrev pub rest_of : {P : Type 0} → Bus P → ℕ
rest_of bus = bus.rest

-- the state of the bus, from those of its ports
abbrev pub bus_state : {P : Type 0} → (P → PortState) → Bus P → BusState
bus_state port bus = record { ports = port_states port bus; rest = rest_of bus }
