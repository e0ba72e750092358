use Rattle.std.proofs.Common.{◌∙◌}
use Rattle.std.specs.Prelude.{◌==◌}
use Rattle.can_gates.specs.Circuit.{value}
use Rattle.can_gates_controller.proofs.StepsTaken.{merged}
use Rattle.can_gates_controller.proofs.stepping.take.Goals as goal

pub returns-clause-places : goal.returns-clause-places
returns-clause-places c = c.merge.ensures.places

pub returns-clause-taken : goal.returns-clause-taken
returns-clause-taken c = (
  c.merge.ensures.merged.0 ∙ c.and-integrating.ensures.made.0 ∙ c.and-rests.ensures.made.0 ∙ c.and-passes.ensures.made.0,
  λ v keeps.
      let taken = c.merge.ensures.merged.1 v keeps in
      let integrating = c.and-integrating.ensures.made.1 v taken.0 in
      let rests = c.and-rests.ensures.made.1 v integrating.0 in
      let passes = c.and-passes.ensures.made.1 v rests.0 in
      let k = c.args.inputs.now in
      (passes.0, λ p h. taken.1 p h ∙ rw (passes.1, rests.1, integrating.1, c.opposite.ensures.value v, c.opposite-2.ensures.value v, c.opposite-3.ensures.value v) (merged (value v k.reset) (value v k.integrating) (value v k.enable) (p == 0) _ _)),
)
