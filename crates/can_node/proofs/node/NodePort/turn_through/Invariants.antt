use Rattle.std.proofs.Common.{◌≡◌, drop}
use Rattle.can_node.specs.Ports.{port_run}
use Rattle.can_node.specs.Tournament.{frames_in}
use Rattle.can_node.proofs.node.NodePort.turn_through.Given as goal

-- the levels that are left lead from the present port to the same state as all levels from the first
abbrev pub invariant-loop-level : goal.invariant-loop-level
invariant-loop-level g l =
    port_run (record { mac = l.self.mac; queue = frames_in l.self.queue.slots.items; queue_room = l.self.queue.room; log = l.self.log.entries.items; log_room = l.self.log.room; missed = l.self.log.missed }) (drop l.level-index l.levels)
    ≡ port_run (record { mac = l.fn.self.mac; queue = frames_in l.fn.self.queue.slots.items; queue_room = l.fn.self.queue.room; log = l.fn.self.log.entries.items; log_room = l.fn.self.log.room; missed = l.fn.self.log.missed }) l.levels
