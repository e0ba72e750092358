use Rattle.std.proofs.Common.{ℕ, ◌-◌, ◌/◌, arith}
use Rattle.can_plan.proofs.Margins.{is-margin, known-before}
use Rattle.can_plan.proofs.margin.greatest_strain.Goals as goal

pub first_under-requires-clause-met : goal.first_under-requires-clause-met
first_under-requires-clause-met c = λ k few.
    let more : ℕ = c.loop-margin.last - (c.loop-margin.last - c.loop-margin.margin.most) / 2 in
    known-before c.args.strain c.args.rate.now c.args.limit c.args.messages.now c.args.deadlines.now c.requires.periodic c.loop-margin.margin.late c.loop-margin.last more
    c.loop-margin.invariant.3 (omega arith) k (omega (arith, few, c.unwrap_or-from.ensures))

pub returns : goal.returns
returns c =
    is-margin c.args.strain c.args.rate.now c.args.limit c.args.messages.now c.args.deadlines.now c.requires.periodic
    c.loop-margin.margin c.loop-margin.last c.loop-margin-test.false c.loop-margin.invariant
