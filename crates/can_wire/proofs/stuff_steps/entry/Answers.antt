use Rattle.std.proofs.Common.{◌+◌, ◌*◌, arith}
use Rattle.can_wire.proofs.StuffSteps.{entry_is}
use Rattle.can_wire.proofs.stuff_steps.entry.Goals as goal

pub returns : goal.returns
returns c = (entry_is c.args.row c.args.octet (256 * c.from.result + c.from-2.result) c.requires c.ranges.octet.fits (omega (arith, c.from.ensures, c.from-2.ensures))).1
