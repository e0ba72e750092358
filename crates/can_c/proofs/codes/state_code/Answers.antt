use Rattle.std.proofs.Common.{rules}
use Rattle.can_c.proofs.codes.state_code.Goals as goal

pub returns-in-BusOff : goal.returns-in-BusOff
returns-in-BusOff c = search rules
