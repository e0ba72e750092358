use Rattle.std.proofs.Common.{◌≡◌, ◌+◌, ◌<◌, ℕ, get_or, length, map}
use Rattle.can_frame.specs.declared.level.Level.{Level}
use Rattle.can_node.specs.Ports.{port_drives}
use Rattle.can_bus.specs.Run.{bus_after, recorded}
use Rattle.can_bus.specs.State.{bus_state, port_states}
use Rattle.can_bus.specs.Walks.{IsCall, call_on}
use Rattle.can_bus.specs.Wired.{wired}
use Rattle.can_bus.proofs.bus.Bus.take_each.Given as goal

abbrev pub invariant-loop-slot : goal.invariant-loop-slot
invariant-loop-slot g l = record {
  state : call_on (bus_state g.P.Port.port l.self) l.call ≡ bus_after l.hits l.slot-index (call_on (bus_state g.P.Port.port l.fn.self) l.fn.call);
  levels : (t : ℕ) (d : Level) → t < l.slot-index → get_or l.rec t d ≡ recorded l.hits (bus_after l.hits t (call_on (bus_state g.P.Port.port l.fn.self) l.fn.call));
  driven : l.driven ≡ wired (map port_drives (port_states g.P.Port.port l.self));
  call : IsCall l.hits l.call;
  time : l.call.time ≡ l.fn.call.time + l.slot-index;
  size : length l.rec ≡ length l.fn.rec;
}
