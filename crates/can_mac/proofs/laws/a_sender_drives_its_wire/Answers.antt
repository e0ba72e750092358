use Rattle.can_mac.proofs.FrameDrives.{driven_at-frame, sender-drives-line, sender-drives-slot, receiver-drives-nothing, receiver-drives-slot, driven-over}
use Rattle.can_mac.proofs.laws.a_sender_drives_its_wire.Goals as goal

pub returns-clause-drives : goal.returns-clause-drives
returns-clause-drives c = λ f m waits o start heard. driven_at-frame f m waits start o heard

pub returns-clause-sender : goal.returns-clause-sender
returns-clause-sender c = λ f m waits o start heard e other. sender-drives-line f m waits start o heard e other

pub returns-clause-sender_slot : goal.returns-clause-sender_slot
returns-clause-sender_slot c = λ f m waits o start heard e here. sender-drives-slot f m waits start o heard e here

pub returns-clause-receiver : goal.returns-clause-receiver
returns-clause-receiver c = λ f m waits o start heard e other. receiver-drives-nothing f m waits start o heard e other

pub returns-clause-receiver_slot : goal.returns-clause-receiver_slot
returns-clause-receiver_slot c = λ f m waits o start heard e here. receiver-drives-slot f m waits start o heard e here

pub returns-clause-over : goal.returns-clause-over
returns-clause-over c = λ f m waits o start heard. driven-over f m waits start o heard
