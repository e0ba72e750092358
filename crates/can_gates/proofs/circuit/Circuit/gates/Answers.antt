use Rattle.std.proofs.Common.{reverse, sym, ◌∙◌, ap}
use Rattle.std.proofs.lemmas.List.{reverse-reverse}
use Rattle.can_gates.specs.Circuit.{CircuitParts}
use Rattle.can_gates.proofs.circuit.Circuit.gates.Goals as goal

pub returns : goal.returns
returns c = c.as_slice.ensures.value ∙ sym (reverse-reverse c.self.inside.gates.items) ∙ ap (λ (p : CircuitParts). reverse p.gates) c.self.view_is
