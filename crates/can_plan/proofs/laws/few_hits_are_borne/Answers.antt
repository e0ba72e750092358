use Rattle.can_bus.proofs.NetworkPlans.{fifteen-borne}
use Rattle.can_plan.proofs.BorneHits.{hits-within}
use Rattle.can_plan.proofs.laws.few_hits_are_borne.Goals as goal

pub returns : goal.returns
returns c = record { fifteen = fifteen-borne; within = hits-within }
