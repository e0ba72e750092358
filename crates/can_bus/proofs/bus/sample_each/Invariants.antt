use Rattle.std.proofs.Common.{◌≡◌, map, take}
use Rattle.can_node.specs.Ports.{port_drives}
use Rattle.can_terms.specs.declared.hit.Hit.TheVariants.{View}
use Rattle.can_bus.specs.Walks.{AreBelow}
use Rattle.can_bus.specs.Wired.{wired}
use Rattle.can_bus.proofs.PortLoops.{front_at, sampled}
use Rattle.can_bus.proofs.bus.sample_each.Given as goal

abbrev pub invariant-loop-node : goal.invariant-loop-node
invariant-loop-node g l = record {
  ports : map g.P.Port.port l.ports ≡ front_at (sampled l.hits l.time l.level) 0 l.node (map g.P.Port.port l.initial.ports);
  driven : l.driven ≡ wired (map port_drives (map g.P.Port.port (take l.node l.ports)));
  passed : AreBelow l.hits l.view.place (View l.time l.node);
}
