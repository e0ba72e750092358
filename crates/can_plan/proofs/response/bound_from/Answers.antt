use Rattle.std.proofs.Common.{arith}
use Rattle.can_plan.proofs.Bounds.{answers-each, busy-first}
use Rattle.can_plan.proofs.response.bound_from.Goals as goal

pub busy-requires-clause-begun : goal.busy-requires-clause-begun
busy-requires-clause-begun c = λ n busy. c.busy_after-from.ensures n
    (λ some.
    let first = busy-first c.args.rate.now c.args.blocking c.args.widest c.args.message.now c.args.higher.now c.requires.periodic c.requires.first some c.args.first c.requires.begun n busy in
    omega (arith, first, c.from-first.ensures))

pub returns : goal.returns
returns c =
    let found = c.in_ok-long.ensures in
    answers-each c.args.rate.now c.args.limit c.args.blocking c.args.widest c.args.message.now c.args.higher.now c.requires.first c.in_ok-long.long found.0 found.1 c.latest_end.result c.latest_end.ensures
