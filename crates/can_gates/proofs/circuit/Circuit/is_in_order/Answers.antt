use Rattle.std.proofs.Common.{subst}
use Rattle.can_gates.specs.Circuit.{CircuitParts}
use Rattle.can_gates.specs.Ordered.{IsOrdered}
use Rattle.can_gates.proofs.circuit.Circuit.is_in_order.Goals as goal

pub returns-clause-order : goal.returns-clause-order
returns-clause-order c = subst (λ (p : CircuitParts). IsOrdered p.inputs p.highest p.gates) c.self.view_is c.self.invariant.ordered
