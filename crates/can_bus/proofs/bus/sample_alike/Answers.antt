use Rattle.std.proofs.Common.{map, arith, ap, refl, sym, ◌∙◌}
use Rattle.std.proofs.lemmas.List.{length-map, take_all}
use Rattle.can_node.specs.Ports.{port_drives, port_step}
use Rattle.can_bus.specs.Wired.{wired}
use Rattle.can_bus.proofs.PortLoops.{front_at_more, front_at_each}
use Rattle.can_bus.proofs.WiredLemmas.{wired_empty, wired-turned}
use Rattle.can_bus.proofs.bus.sample_alike.Goals as goal

pub loop-port-init : goal.loop-port-init
loop-port-init g c = record { ports = refl; driven = sym wired_empty }

pub loop-port-preserved : goal.loop-port-preserved
loop-port-preserved g c = record {
  ports = front_at_more g.P.Port.port (λ n p. port_step p c.args.level) c.loop-port.port-index c.loop-port.ports (map g.P.Port.port c.args.ports.now) c.turn.new.self c.port-item.result
      (omega arith) c.loop-port.invariant.ports c.turn.ensures.port;
  driven = wired-turned port_drives g.P.Port.port c.loop-port.ports c.loop-port.port-index c.turn.new.self c.turn.result c.loop-port.driven c.over-driven.result (omega arith)
      c.loop-port.invariant.driven c.turn.ensures.level c.over-driven.ensures;
}

pub returns-clause-ports : goal.returns-clause-ports
returns-clause-ports g c = c.loop-port.invariant.ports ∙ front_at_each (λ p. port_step p c.args.level) 0 c.loop-port.port-index _ (simp length-map (omega arith))

pub returns-clause-driven : goal.returns-clause-driven
returns-clause-driven g c = c.loop-port.invariant.driven ∙ ap (λ ps. wired (map port_drives (map g.P.Port.port ps))) (take_all c.loop-port.port-index c.loop-port.ports (omega arith))
