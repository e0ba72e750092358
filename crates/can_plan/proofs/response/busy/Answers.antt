use Rattle.std.proofs.Common.{arith}
use Rattle.can_plan.proofs.Growth.{demand-at, busy-grows}
use Rattle.can_plan.proofs.response.busy.Goals as goal

pub loop-next-preserved : goal.loop-next-preserved
loop-next-preserved c =
    let same = demand-at c.args.rate.now c.args.blocking c.args.widest c.args.message.now c.args.higher.now c.loop-next.long c.from-in-loop-next-2.result c.from-in-loop-next-3.result c.own_load.result c.from-in-loop-next.result
    c.from-in-loop-next-2.ensures c.from-in-loop-next-3.ensures c.from-in-loop-next.ensures c.own_load.ensures.value in (
      omega (arith, c.in-Some.ensures),
      omega arith,
      λ n h.
          let before = c.loop-next.invariant.2 n h in
          let grows = busy-grows c.args.rate.now c.args.blocking c.args.widest c.args.message.now c.args.higher.now c.loop-next.long n c.requires.first c.requires.periodic before in
          let enough = h.1 in
          omega (arith, c.in-Some.ensures),
    )

pub returns : goal.returns
returns c = λ n h.
    let same = demand-at c.args.rate.now c.args.blocking c.args.widest c.args.message.now c.args.higher.now c.loop-next.long c.from-in-loop-next-2.result c.from-in-loop-next-3.result c.own_load.result c.from-in-loop-next.result
    c.from-in-loop-next-2.ensures c.from-in-loop-next-3.ensures c.from-in-loop-next.ensures c.own_load.ensures.value in
    let before = c.loop-next.invariant.2 n h in
    let grows = busy-grows c.args.rate.now c.args.blocking c.args.widest c.args.message.now c.args.higher.now c.loop-next.long n c.requires.first c.requires.periodic before in
    let enough = h.1 in
    omega (arith, c.in_default.ensures)
