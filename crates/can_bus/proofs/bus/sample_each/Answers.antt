use Rattle.std.proofs.Common.{arith, get_or, map, ap, refl, sym, ◌∙◌}
use Rattle.std.proofs.lemmas.List.{length-map, take_all}
use Rattle.can_node.specs.Ports.{port_drives, port_step}
use Rattle.can_bus.specs.Run.{inverted_if}
use Rattle.can_bus.specs.Wired.{wired}
use Rattle.can_bus.proofs.CursorLemmas.{view_found}
use Rattle.can_bus.proofs.PortLoops.{sampled, front_at_more, front_at_all}
use Rattle.can_bus.proofs.StepLemmas.{view_next, view_later}
use Rattle.can_bus.proofs.WiredLemmas.{wired_empty, wired-turned}
use Rattle.can_bus.proofs.bus.sample_each.Goals as goal

pub loop-node-init : goal.loop-node-init
loop-node-init g c = record { ports = refl; driven = sym wired_empty; passed = c.requires.passed }

pub loop-node-preserved : goal.loop-node-preserved
loop-node-preserved g c = record {
  ports = front_at_more g.P.Port.port (sampled c.args.hits.now c.args.time c.args.level) c.loop-node.node c.loop-node.ports _ c.turn.new.self c.index-ports-node.result
      (omega arith) c.loop-node.invariant.ports
      (c.turn.ensures.port
      ∙ ap (port_step (g.P.Port.port (get_or c.loop-node.ports c.loop-node.node c.index-ports-node.result)))
      (c.inverted_if-seen.ensures
      ∙ ap (λ b. inverted_if b c.args.level) (c.reach-hit.ensures.result ∙ view_found c.args.time c.loop-node.node c.args.hits.now)));
  driven = wired-turned port_drives g.P.Port.port c.loop-node.ports c.loop-node.node c.turn.new.self c.turn.result c.loop-node.driven c.over-driven.result (omega arith)
      c.loop-node.invariant.driven c.turn.ensures.level c.over-driven.ensures;
  passed = view_next c.args.hits.now c.reach-hit.new.self.place c.args.time c.loop-node.node c.reach-hit.ensures.passed;
}

pub returns-clause-ports : goal.returns-clause-ports
returns-clause-ports g c =
    c.loop-node.invariant.ports ∙ front_at_all c.args.hits.now c.args.time c.args.level 0 c.loop-node.node _ (simp length-map (omega arith))

pub returns-clause-passed : goal.returns-clause-passed
returns-clause-passed g c = view_later c.args.hits.now c.loop-node.view.place c.args.time c.loop-node.node c.loop-node.invariant.passed

pub returns-clause-driven : goal.returns-clause-driven
returns-clause-driven g c = c.loop-node.invariant.driven ∙ ap (λ ps. wired (map port_drives (map g.P.Port.port ps))) (take_all c.loop-node.node c.loop-node.ports (omega arith))
