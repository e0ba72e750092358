use Rattle.std.proofs.Common.{map, arith, ◌∙◌}
use Rattle.std.proofs.lemmas.List.{length-map}
use Rattle.can_node.specs.Ports.{port_run}
use Rattle.can_bus.proofs.PassingPorts.{may-next}
use Rattle.can_bus.proofs.PortLoops.{front_at_more, front_at_each}
use Rattle.can_bus.proofs.bus.passing.ride_others.Goals as goal

pub ride_one-requires-clause-passes : goal.ride_one-requires-clause-passes
ride_one-requires-clause-passes g c =
    let f = c.args.frame.now in
    let S = g.P.Port.port in
    may-next S f (λ n p. port_run p c.args.levels.now) 0 c.loop-port.port-index c.loop-port.ports (map S c.args.ports.now) c.port-item.result
    c.requires.passes c.loop-port.invariant (omega arith)

pub loop-port-preserved : goal.loop-port-preserved
loop-port-preserved g c =
    front_at_more g.P.Port.port (λ n p. port_run p c.args.levels.now) c.loop-port.port-index c.loop-port.ports (map g.P.Port.port c.args.ports.now) c.ride_one.new.port c.port-item.result
    (omega arith) c.loop-port.invariant c.ride_one.ensures

pub returns : goal.returns
returns g c = c.loop-port.invariant ∙ front_at_each (λ p. port_run p c.args.levels.now) 0 c.loop-port.port-index _ (simp length-map (omega arith))
