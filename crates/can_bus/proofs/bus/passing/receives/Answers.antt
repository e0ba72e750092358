use Rattle.std.proofs.Common.{inr, rules}
use Rattle.can_bus.specs.Passing.{Receives}
use Rattle.can_bus.proofs.bus.passing.receives.Goals as goal

pub returns-then-eq-clause-passes : goal.returns-then-eq-clause-passes
returns-then-eq-clause-passes g c = λ frame key. inr (let r : Receives frame (g.P.Port.port c.args.port.now) = search rules in r)
