use Rattle.can_bus.proofs.BorneHits.{fifteen-borne}
use Rattle.can_bus.proofs.laws.fifteen_hits_are_borne.Goals as goal

pub returns : goal.returns
returns c = fifteen-borne
