use Rattle.std.proofs.Common.{◌≡◌, false, true, sym, ◌∙◌}
use Rattle.can_plan.proofs.Margins.{meet-unstrained, none-late, some-late}
use Rattle.can_plan.proofs.Periods.{periodic-from, periodic-to}
use Rattle.can_plan.proofs.margin.margin_of.Goals as goal
use Rattle.can_plan.proofs.margin.margin_of.Goals.{then-not-are_periodic-via-then-not-are_periodic, then-not-are_periodic-via-else-not-are_periodic+then-is_some}

pub returns-then-not-are_periodic-clause-margin : goal.returns-then-not-are_periodic-clause-margin
returns-then-not-are_periodic-clause-margin c = λ periodic met. elim c.then-not-are_periodic.branch [
  | then-not-are_periodic-via-then-not-are_periodic w ↦
      absurd (let h : true ≡ false = sym (periodic-to c.args.messages.now periodic) ∙ sym c.are_periodic.ensures ∙ w.if-not-are_periodic.true in cc)
  | then-not-are_periodic-via-else-not-are_periodic+then-is_some w ↦
      some-late c.args.rate.now c.args.limit c.args.messages.now c.args.deadlines.now w.first_late.result (w.first_late.ensures.first periodic) (sym w.is_some.ensures ∙ w.if-is_some.true) met
]

pub greatest_strain-requires-clause-periodic : goal.greatest_strain-requires-clause-periodic
greatest_strain-requires-clause-periodic c = periodic-from c.args.messages.now (sym c.are_periodic.ensures ∙ c.if-not-are_periodic.false)

pub greatest_strain-requires-clause-met : goal.greatest_strain-requires-clause-met
greatest_strain-requires-clause-met c =
    let periodic = periodic-from c.args.messages.now (sym c.are_periodic.ensures ∙ c.if-not-are_periodic.false) in
    meet-unstrained c.args.strain c.args.rate.now c.args.limit c.args.messages.now c.args.deadlines.now periodic
    (none-late c.args.rate.now c.args.limit c.args.messages.now c.args.deadlines.now c.first_late.result (c.first_late.ensures.first periodic) (sym c.is_some.ensures ∙ c.if-is_some.false))
