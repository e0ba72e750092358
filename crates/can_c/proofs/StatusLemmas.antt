-- One status alone has the number of a call that has done what it says.
use Rattle.std.proofs.Common.{◌≡◌, ◌≢◌, refl, ap}
use Rattle.can_code.specs.declared.fault.CodeFaultKind.{CodeFaultKind}
use Rattle.can_code.specs.declared.fault.CodeFaultKind.TheVariants.{Short, NoStartOfFrame, Stuff, Crc, Form}
use Rattle.can_c.specs.declared.status.Status.{Status}
use Rattle.can_c.specs.declared.status.Status.TheVariants.{Done, NoPort, NoMemory, QueueFull, NoEntry, BadFlag, BadIdentifier, BadDlc, BadLevel, BadCount, NoLevels, NoRoom, ShortFrame, NoStart, StuffFault, CrcFault, FormFault, BadBus, NoSuchPort, BadOrder, BadKind, BadWire}
use Rattle.can_c.specs.Statuses.{done, levels_status, status_code}

pub done_only : (s : Status) → status_code s ≡ done → s ≡ Done
done_only Done e = refl
done_only NoPort e = cc
done_only NoMemory e = cc
done_only QueueFull e = cc
done_only NoEntry e = cc
done_only BadFlag e = cc
done_only BadIdentifier e = cc
done_only BadDlc e = cc
done_only BadLevel e = cc
done_only BadCount e = cc
done_only NoLevels e = cc
done_only NoRoom e = cc
done_only ShortFrame e = cc
done_only NoStart e = cc
done_only StuffFault e = cc
done_only CrcFault e = cc
done_only FormFault e = cc
done_only BadBus e = cc
done_only NoSuchPort e = cc
done_only BadOrder e = cc
done_only BadKind e = cc
done_only BadWire e = cc

pub not_done : (s : Status) → status_code s ≢ done → s ≢ Done
not_done s h e = h (ap status_code e)

-- a fault of levels is no success, and no bad level
pub fault_not_done : (kind : CodeFaultKind) → status_code (levels_status kind) ≢ done
fault_not_done Short e = cc
fault_not_done NoStartOfFrame e = cc
fault_not_done Stuff e = cc
fault_not_done Crc e = cc
fault_not_done Form e = cc
