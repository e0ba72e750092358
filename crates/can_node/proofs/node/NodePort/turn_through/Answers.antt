use Rattle.std.proofs.Common.{arith, sym, ◌∙◌}
use Rattle.can_frame.specs.declared.level.Level.TheVariants.{Dominant}
use Rattle.can_node.specs.Ports.{PortState}
use Rattle.can_node.specs.Tournament.{frames_in}
use Rattle.can_node.proofs.RunLemmas.{port_run-next, port_run-all}
use Rattle.can_node.proofs.node.NodePort.turn_through.Goals as goal

pub loop-level-preserved : goal.loop-level-preserved
loop-level-preserved g c =
    let old = c.loop-level.self in
    let new = c.sample_in_passing.new.self in
    let was : PortState = record { mac = old.mac; queue = frames_in old.queue.slots.items; queue_room = old.queue.room; log = old.log.entries.items; log_room = old.log.room; missed = old.log.missed } in
    let is : PortState = record { mac = new.mac; queue = frames_in new.queue.slots.items; queue_room = new.queue.room; log = new.log.entries.items; log_room = new.log.room; missed = new.log.missed } in
    port_run-next was is c.args.levels.now c.loop-level.level-index Dominant (omega arith) c.sample_in_passing.ensures ∙ c.loop-level.invariant

pub returns : goal.returns
returns g c =
    let old = c.loop-level.self in
    let was : PortState = record { mac = old.mac; queue = frames_in old.queue.slots.items; queue_room = old.queue.room; log = old.log.entries.items; log_room = old.log.room; missed = old.log.missed } in
    sym (port_run-all was c.args.levels.now c.loop-level.level-index (omega arith)) ∙ c.loop-level.invariant
