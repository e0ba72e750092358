use Rattle.std.proofs.Common.{arith, sym, ◌∙◌}
use Rattle.can_frame.specs.declared.level.Level.TheVariants.{Dominant}
use Rattle.can_node.proofs.Claims.{port_rested, port_took-idle, port_took-joining}
use Rattle.can_node.proofs.FramesWaiting.{AreFrames-from}
use Rattle.can_node.proofs.RunLemmas.{port_run-next, port_run-all}
use Rattle.can_node.proofs.listening.listen.Goals as goal

pub loop-level-preserved : goal.loop-level-preserved
loop-level-preserved g c =
    port_run-next (g.P.Port.port c.loop-level.port) (g.P.Port.port c.sample.new.self) c.args.seen.now c.loop-level.level-index Dominant (omega arith) c.sample.ensures.port ∙ c.loop-level.invariant

pub returns-clause-run : goal.returns-clause-run
returns-clause-run g c = sym (port_run-all (g.P.Port.port c.loop-level.port) c.args.seen.now c.loop-level.level-index (omega arith)) ∙ c.loop-level.invariant

pub returns-clause-rested : goal.returns-clause-rested
returns-clause-rested g c =
    let valid = g.met.P.Port.valid c.args.port.now in
    port_rested (g.P.Port.port c.args.port.now) c.args.seen.now valid.mac

pub returns-clause-took_from_idle : goal.returns-clause-took_from_idle
returns-clause-took_from_idle g c idle =
    let valid = g.met.P.Port.valid c.args.port.now in
    port_took-idle (g.P.Port.port c.args.port.now) c.args.seen.now (AreFrames-from (g.P.Port.port c.args.port.now).queue valid.queued) idle

pub returns-clause-took_from_joining : goal.returns-clause-took_from_joining
returns-clause-took_from_joining g c row joining =
    let valid = g.met.P.Port.valid c.args.port.now in
    port_took-joining (g.P.Port.port c.args.port.now) row c.args.seen.now (AreFrames-from (g.P.Port.port c.args.port.now).queue valid.queued) joining
