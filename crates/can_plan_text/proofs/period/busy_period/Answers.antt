use Rattle.std.proofs.Common.{arith}
use Rattle.can_plan_text.proofs.Loads.{load-grows}
use Rattle.can_plan_text.proofs.period.busy_period.Goals as goal

pub loop-next-preserved : goal.loop-next-preserved
loop-next-preserved c = (
  omega (arith, c.in-Some.ensures),
  omega arith,
  λ n h.
      let before = c.loop-next.invariant.2 n h in
      let grows = load-grows c.args.level.now c.loop-next.long n before in
      let enough = h.1 in
      omega (arith, c.in-Some.ensures),
)

pub returns : goal.returns
returns c = λ n h.
    let before = c.loop-next.invariant.2 n h in
    let grows = load-grows c.args.level.now c.loop-next.long n before in
    let enough = h.1 in
    omega (arith, c.in_default.ensures)
