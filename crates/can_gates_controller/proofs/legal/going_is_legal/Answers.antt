use Rattle.std.proofs.Common.{◌∙◌}
use Rattle.can_gates.proofs.Constants.{zero-kept, value-never}
use Rattle.can_gates_controller.proofs.LegalStates.{going_fits}
use Rattle.can_gates_controller.proofs.legal.going_is_legal.Goals as goal

pub returns : goal.returns
returns c = (
  c.and.ensures.made.0 ∙ c.and-fits.ensures.made.0 ∙ c.and-runs.ensures.made.0 ∙ c.and-counted.ensures.made.0 ∙ c.and-ended.ensures.made.0 ∙ c.equals-whole.ensures.made.0 ∙ c.less-plain.ensures.0 ∙ c.less-few.ensures.0 ∙ c.less-none.ensures.0 ∙ c.less-over.ensures.made.0 ∙ c.less-some.ensures.made.0,
  λ v keeps.
      let made = c.and.ensures.made.1 v keeps in
      let fits = c.and-fits.ensures.made.1 v made.0 in
      let runs = c.and-runs.ensures.made.1 v fits.0 in
      let counted = c.and-counted.ensures.made.1 v runs.0 in
      let ended = c.and-ended.ensures.made.1 v counted.0 in
      let whole = c.equals-whole.ensures.made.1 v ended.0 in
      let plain = c.less-plain.ensures.1 v whole.0 in
      let few = c.less-few.ensures.1 v plain.0 in
      let none = c.less-none.ensures.1 v few.0 in
      let over = c.less-over.ensures.made.1 v none.0 in
      let some = c.less-some.ensures.made.1 v over.0 in
      let zero_is = zero-kept v c.args.circuit.now some.0 in (
        some.0,
        λ front goes held long. made.1 ∙ rw (fits.1, counted.1, runs.1, c.opposite.ensures.value v, c.opposite-2.ensures.value v, c.opposite-3.ensures.value v, ended.1, whole.1, plain.1, few.1, none.1, over.1, some.1, long, held.count, held.run.run, value-never v zero_is) (going_fits front goes),
      ),
)
