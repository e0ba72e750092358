-- What a contract sees of a port with memory of its own.
use Rattle.can_wire.specs.declared.checked_bits.CheckedBits.{CheckedBits}
use Rattle.can_wire.specs.contracts.checked_bits.CheckedBitsFrameBits.TheImpl as checked_bits
use Rattle.can_node.specs.declared.node.Node.{Node}
use Rattle.can_node.specs.Ports.{PortState}
use Rattle.can_node.specs.Tournament.{frames_in}

abbrev pub node_port : Node CheckedBits checked_bits.ghosts → PortState
node_port n = record { mac = n.mac; queue = frames_in n.queue.slots.items; queue_room = n.queue.room; log = n.log.entries.items; log_room = n.log.room; missed = n.log.missed }
