use Rattle.std.proofs.Common.{map, sym, ◌∙◌}
use Rattle.can_bus.proofs.BusAtRest.{view_unhit}
use Rattle.can_bus.proofs.PassedFrames.{unviewed}
use Rattle.can_bus.proofs.StepLemmas.{view_later}
use Rattle.can_bus.proofs.bus.sample_all.Goals as goal

pub returns-then-is_ahead-clause-ports : goal.returns-then-is_ahead-clause-ports
returns-then-is_ahead-clause-ports g c =
    let hits = c.args.hits.now in
    let place = c.args.view.now.place in
    c.sample_alike.ensures.ports
    ∙ sym (unviewed hits c.args.time c.args.level (λ node. view_unhit hits place c.args.time node c.requires.rising c.requires.passed (c.is_ahead.ensures c.if-is_ahead.true)) 0 (map g.P.Port.port c.args.ports.now))

pub returns-then-is_ahead-clause-passed : goal.returns-then-is_ahead-clause-passed
returns-then-is_ahead-clause-passed g c = view_later c.args.hits.now c.args.view.now.place c.args.time 0 c.requires.passed
