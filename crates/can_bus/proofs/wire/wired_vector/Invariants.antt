use Rattle.std.proofs.Common.{◌≡◌, ◌≤◌, ℕ, get_or, length, map, take}
use Rattle.can_frame.specs.declared.level.Level.TheVariants.{Recessive}
use Rattle.can_node.specs.Ports.{port_drives}
use Rattle.can_bus.specs.Wired.{wired}
use Rattle.can_bus.proofs.wire.wired_vector.Given as goal

abbrev pub invariant-loop-node : goal.invariant-loop-node
invariant-loop-node g l = record {
  driven : wired l.levels ≡ wired (map (λ p. port_drives (g.P.Port.port p)) (take l.node l.ports));
  resting : (k : ℕ) → l.node ≤ k → get_or l.levels k Recessive ≡ Recessive;
  whole : length l.levels ≡ 32;
}
