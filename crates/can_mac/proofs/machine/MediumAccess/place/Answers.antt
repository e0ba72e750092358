use Rattle.std.proofs.Common.{arith}
use Rattle.can_mac.specs.State.{MacState}
use Rattle.can_mac.proofs.DriveLemmas.{longest_part}
use Rattle.can_mac.proofs.machine.MediumAccess.place.Goals as goal

-- a controller has received at most 118 levels of the stuffed part
pub overflow_cast-result : goal.overflow_cast-result
overflow_cast-result g c =
    let i = c.self.inside in
    let fields : MacState = record { phase = i.phase; role = i.role; overloads = i.overloads; counters = i.confine } in
    omega (arith, c.len.ensures, longest_part fields c.self.invariant c.in-StuffedPart.front c.in-StuffedPart.is)
