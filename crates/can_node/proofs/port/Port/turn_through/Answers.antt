use Rattle.std.proofs.Common.{arith, sym, ◌∙◌}
use Rattle.can_frame.specs.declared.level.Level.TheVariants.{Dominant}
use Rattle.can_node.proofs.RunLemmas.{port_run-next, port_run-all}
use Rattle.can_node.proofs.port.Port.turn_through.Goals as goal

pub loop-level-preserved : goal.loop-level-preserved
loop-level-preserved g c =
    port_run-next (g.Self.Port.port c.loop-level.self) (g.Self.Port.port c.turn.new.self) c.args.levels.now c.loop-level.level-index Dominant (omega arith) c.turn.ensures.port ∙ c.loop-level.invariant

pub returns : goal.returns
returns g c = sym (port_run-all (g.Self.Port.port c.loop-level.self) c.args.levels.now c.loop-level.level-index (omega arith)) ∙ c.loop-level.invariant
