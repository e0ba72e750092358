use Rattle.std.proofs.Common.{◌≡◌, drop}
use Rattle.can_conform.specs.Runs.{all_handed, wished}
use Rattle.can_conform.proofs.bench.wish_all.Given as goal

-- passing on the remaining requests now leads to the same port as passing on all of them at the start
abbrev pub invariant-loop-hold : goal.invariant-loop-hold
invariant-loop-hold g l = all_handed wished (drop l.hold-index l.holds) l.time (g.P.Port.port l.port) ≡ all_handed wished l.holds l.time (g.P.Port.port l.fn.port)
