use Rattle.std.proofs.Common.{◌+◌, arith}
use Rattle.can_plan.proofs.Growth.{demand-grows}
use Rattle.can_plan.proofs.response.delay.Goals as goal

pub loop-next-preserved : goal.loop-next-preserved
loop-next-preserved c = (
  omega (arith, c.in-Some.ensures),
  λ n h.
      let before = c.loop-next.invariant.1 n h in
      let grows = demand-grows c.args.rate.now c.args.time c.args.widest c.args.higher.now (c.from-in-loop-next.result + 1) (n + 1) c.requires.periodic (let e = c.from-in-loop-next.ensures in omega arith) in
      omega (arith, c.in-Some.ensures),
)

pub returns : goal.returns
returns c = λ n h.
    let before = c.loop-next.invariant.1 n h in
    let grows = demand-grows c.args.rate.now c.args.time c.args.widest c.args.higher.now (c.from-in-loop-next.result + 1) (n + 1) c.requires.periodic (let e = c.from-in-loop-next.ensures in omega arith) in
    omega (arith, c.in_default.ensures)
