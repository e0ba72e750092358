use Rattle.std.proofs.Common.{◌≡◌, ◌≤◌, ℕ, Bool, reverse, subst}
use Rattle.can_gates.specs.Circuit.{CircuitParts, KeepsGates}
use Rattle.can_gates.specs.Runs.{run}
use Rattle.can_gates.proofs.Running.{run-keeps, run-inputs, kept-run}
use Rattle.can_gates.proofs.circuit.Circuit.is_kept_by_its_run.Goals as goal

-- the inputs of a run are as they were
abbrev HasInputs : CircuitParts → Type 0
HasInputs p = (inputs : ℕ → Bool) (s : ℕ) → s ≤ p.inputs → run p.gates inputs s ≡ inputs s

pub returns-clause-keeps : goal.returns-clause-keeps
returns-clause-keeps c = λ inputs complete zero_is.
    let inside = c.self.inside in
    (complete, subst (λ (p : CircuitParts). KeepsGates (run p.gates inputs) p.gates) c.self.view_is (run-keeps inside.inputs inside.highest (reverse inside.gates.items) inputs c.self.invariant.ordered zero_is))

pub returns-clause-inputs : goal.returns-clause-inputs
returns-clause-inputs c =
    let inside = c.self.inside in
    subst HasInputs c.self.view_is (λ inputs s few. run-inputs inside.inputs inside.highest (reverse inside.gates.items) inputs s c.self.invariant.ordered few)

pub returns-clause-only : goal.returns-clause-only
returns-clause-only c = λ v s keeps. kept-run v c.args.self.now.gates keeps.1 s
