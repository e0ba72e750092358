use Rattle.std.proofs.Common.{ℕ, ◌∙◌, false, ap, arith}
use Rattle.std.proofs.Math.Dec.{eqb}
use Rattle.can_gates.specs.Circuit.{CircuitParts}
use Rattle.can_gates_controller.proofs.ListedLemmas.{list_resets, starts_are, steps_are}
use Rattle.can_gates_controller.proofs.Taking.{reset_holds}
use Rattle.can_gates_controller.proofs.StepsTaken.{not_first}
use Rattle.can_gates_controller.proofs.RunsOf.{runs_alike}
use Rattle.can_gates_controller.proofs.making.controller_circuit.Goals as goal

pub returns-clause-zero : goal.returns-clause-zero
returns-clause-zero c = λ i h. (c.in_ok-registers.ensures.1 i (omega (arith, h, c.in_ok-registers.ensures.0))).starts

pub returns-clause-starts : goal.returns-clause-starts
returns-clause-starts c =
    let many = c.in_ok-registers.ensures.0 ∙ c.step.ensures.places in
    let inputs = ap (λ (f : ℕ × ℕ). f.0) c.step.ensures.taken.0 ∙ ap (λ (k : CircuitParts). k.inputs) c.in_ok-circuit.ensures in
    λ v starts. reset_holds v c.registers-held.result false (list_resets v c.registers-held.result false (λ p h. starts_are c.in_ok-registers.registers.items c.step.new.circuit _ c.registers-held.result many inputs c.registers-held.ensures c.step.ensures.places c.in_ok-registers.ensures.1 v starts p h ∙ not_first (eqb p 0)))

pub returns-clause-resets : goal.returns-clause-resets
returns-clause-resets c =
    let many = c.in_ok-registers.ensures.0 ∙ c.step.ensures.places in
    let inputs = ap (λ (f : ℕ × ℕ). f.0) c.step.ensures.taken.0 ∙ ap (λ (k : CircuitParts). k.inputs) c.in_ok-circuit.ensures in
    λ before now keeps reset steps. (c.step.ensures.taken.1 before keeps).1.0 now reset (steps_are c.in_ok-registers.registers.items c.step.new.circuit _ c.registers-held.result many inputs c.registers-held.ensures c.step.ensures.places c.in_ok-registers.ensures.1 before now steps)

pub returns-clause-steps : goal.returns-clause-steps
returns-clause-steps c =
    let many = c.in_ok-registers.ensures.0 ∙ c.step.ensures.places in
    let inputs = ap (λ (f : ℕ × ℕ). f.0) c.step.ensures.taken.0 ∙ ap (λ (k : CircuitParts). k.inputs) c.in_ok-circuit.ensures in
    λ before m keeps held.
    let now = (c.step.ensures.taken.1 before keeps).1.1 m held in
    (now.0, λ after steps. now.1 after (steps_are c.in_ok-registers.registers.items c.step.new.circuit _ c.registers-held.result many inputs c.registers-held.ensures c.step.ensures.places c.in_ok-registers.ensures.1 before after steps))

pub returns-clause-runs : goal.returns-clause-runs
returns-clause-runs c = runs_alike _ (returns-clause-steps c)

pub returns-clause-ports : goal.returns-clause-ports
returns-clause-ports c = record {
  inputs = ap (λ (f : ℕ × ℕ). f.0) c.step.ensures.taken.0 ∙ ap (λ (k : CircuitParts). k.inputs) c.in_ok-circuit.ensures;
  registers = c.in_ok-registers.ensures.0 ∙ c.step.ensures.places;
  comes = c.input_ports-inputs.ensures;
  held = c.registers-held.ensures;
  goes = c.in_ok-listed.ensures;
}
