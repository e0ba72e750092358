use Rattle.std.proofs.Common.{◌≡◌, map, take}
use Rattle.can_frame.specs.declared.level.Level.TheVariants.{Recessive}
use Rattle.can_node.specs.Ports.{port_step}
use Rattle.can_bus.proofs.bus.stretch.all_rest.Given as goal

abbrev pub invariant-loop-port : goal.invariant-loop-port
invariant-loop-port g l =
    map (λ p. port_step p Recessive) (map g.P.Port.port (take l.port-index l.ports)) ≡ map g.P.Port.port (take l.port-index l.ports)
