use Rattle.can_wire.proofs.StuffingLemmas.{Stuffs-stuffed, stuffed-only}
use Rattle.can_wire.proofs.laws.one_stuffing.Goals as goal

pub returns-clause-exists : goal.returns-clause-exists
returns-clause-exists c = Stuffs-stuffed

pub returns-clause-only : goal.returns-clause-only
returns-clause-only c = stuffed-only
