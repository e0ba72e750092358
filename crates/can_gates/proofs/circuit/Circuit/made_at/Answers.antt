use Rattle.std.proofs.Common.{◌<◌, ◌≤◌, length, subst, sym, arith}
use Rattle.can_gates.specs.Circuit.{CircuitParts, value, Keeps}
use Rattle.can_gates.proofs.KeptGates.{kept_gate, ordered_gate, shared_gate}
use Rattle.can_gates.proofs.circuit.Circuit.made_at.Goals as goal

pub returns-then-is_same-2-clause-value : goal.returns-then-is_same-2-clause-value
returns-then-is_same-2-clause-value c = λ v keeps.
    let gate = c.index-gate.result.now in
    let sides = c.args.sides in
    let gates = c.self.inside.gates in
    let within : c.args.place < length gates.items = omega (arith, gates.ok.0) in
    let kept = kept_gate v gates.items c.args.place gate within c.index-gate.ensures (subst (λ (p : CircuitParts). Keeps v p) (sym c.self.view_is) keeps).1 in
    shared_gate v gate (value v c.of_signal.result) (value v sides.left) (value v sides.right) (c.of_signal.ensures.value v) kept (c.is_same.ensures c.if-is_same.true v) (c.is_same-then-is_same.ensures c.if-is_same-2.true v)

pub returns-then-is_same-2-clause-signal : goal.returns-then-is_same-2-clause-signal
returns-then-is_same-2-clause-signal c =
    let gate = c.index-gate.result.now in
    let inside = c.self.inside in
    let within : c.args.place < length inside.gates.items = omega (arith, inside.gates.ok.0) in
    let small = ordered_gate inside.inputs inside.highest inside.gates.items c.args.place gate within c.index-gate.ensures c.self.invariant.ordered in
    rw (c.of_signal.ensures.signal) (subst (λ (p : CircuitParts). gate.signal ≤ p.highest) c.self.view_is small)
