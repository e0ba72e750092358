use Rattle.std.proofs.Common.{◌≡◌, ◌++◌, drop}
use Rattle.can_bus.specs.Walks.{IsReached}
use Rattle.can_trace.specs.PortTimes.{told_from}
use Rattle.can_node.proofs.NodePort.{node_port}
use Rattle.can_trace.proofs.port_times.replay.Given as goal

-- with the bit times from here on, this is all
abbrev pub invariant-loop-time : goal.invariant-loop-time
invariant-loop-time l = record {
  told : l.times.items ++ told_from l.node l.offers l.time (node_port l.port) (drop l.time l.seen) ≡ l.fn.times.items ++ told_from l.node l.offers 0 (node_port l.fn.port) l.seen;
  reached : IsReached l.offers l.place l.time;
}
