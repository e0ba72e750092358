-- The number of each status in C. They are those of bindings/riddlesage.h, which itself returns 1 and 2 for pointers;
-- 19 and 20 are of the calls of can_page for texts.
use Rattle.std.specs.Prelude.{ℕ}
use Rattle.can_bus.specs.declared.fault.BusFault.{BusFault}
use Rattle.can_bus.specs.declared.fault.BusFault.TheVariants as bus
use Rattle.can_code.specs.declared.fault.CodeFaultKind.{CodeFaultKind}
use Rattle.can_code.specs.declared.fault.CodeFaultKind.TheVariants.{Short, NoStartOfFrame, Stuff, Crc, Form}
use Rattle.can_c.specs.declared.status.Status.{Status}
use Rattle.can_c.specs.declared.status.Status.TheVariants.{Done, NoPort, NoMemory, QueueFull, NoEntry, BadFlag, BadIdentifier, BadDlc, BadLevel, BadCount, NoLevels, NoRoom, ShortFrame, NoStart, StuffFault, CrcFault, FormFault, BadBus, NoSuchPort, BadOrder, BadKind, BadWire}

-- the number of a status
abbrev pub status_code : Status → ℕ
status_code Done = 0
status_code NoPort = 3
status_code NoMemory = 4
status_code QueueFull = 5
status_code NoEntry = 6
status_code BadFlag = 7
status_code BadIdentifier = 8
status_code BadDlc = 9
status_code BadLevel = 10
status_code BadCount = 11
status_code NoLevels = 12
status_code NoRoom = 13
status_code ShortFrame = 14
status_code NoStart = 15
status_code StuffFault = 16
status_code CrcFault = 17
status_code FormFault = 18
status_code BadBus = 21
status_code NoSuchPort = 22
status_code BadOrder = 23
status_code BadKind = 24
status_code BadWire = 25

-- the call has done what it promises
abbrev pub done : ℕ
done = status_code Done

-- the status of a decoding fault
abbrev pub levels_status : CodeFaultKind → Status
levels_status Short = ShortFrame
levels_status NoStartOfFrame = NoStart
levels_status Stuff = StuffFault
levels_status Crc = CrcFault
levels_status Form = FormFault

-- the status of a fault that a bus reports
abbrev pub bus_status : BusFault → Status
bus_status bus.NoPort = BadBus
bus_status bus.TooManyPorts = BadBus
bus_status bus.NotRising = BadOrder
bus_status bus.NoSuchPort = NoSuchPort
