use Rattle.std.proofs.Common.{◌≡◌, ◌+◌, length, arith, refl, ap, ◌∙◌, length-set}
use Rattle.can_bus.specs.Run.{bus_after}
use Rattle.can_bus.specs.State.{bus_state}
use Rattle.can_bus.specs.Walks.{call_on}
use Rattle.can_bus.proofs.BusAtRest.{after_none, after_more, recorded_more}
use Rattle.can_bus.proofs.bus.Bus.take_each.Goals as goal

pub take_level-requires-clause-driven : goal.take_level-requires-clause-driven
take_level-requires-clause-driven g c = c.loop-slot.invariant.driven

pub take_level-requires-clause-call : goal.take_level-requires-clause-call
take_level-requires-clause-call g c = c.loop-slot.invariant.call

pub loop-slot-init : goal.loop-slot-init
loop-slot-init g c = record {
  state = after_none c.args.hits.now (call_on (bus_state g.P.Port.port c.args.self.now) c.args.call.now);
  levels = λ t d h. absurd (omega arith);
  driven = c.requires.driven;
  call = c.requires.call;
  time = omega arith;
  size = refl;
}

pub loop-slot-preserved : goal.loop-slot-preserved
loop-slot-preserved g c =
    let time : c.loop-slot.call.time ≡ c.args.call.now.time + c.loop-slot.slot-index = c.loop-slot.invariant.time in
    record {
      state = after_more c.args.hits.now c.loop-slot.slot-index _ _ _ c.loop-slot.invariant.state c.take_level.ensures.after;
      levels = recorded_more c.args.hits.now c.loop-slot.slot-index _ _ c.loop-slot.rec c.take_level.result (omega arith) c.loop-slot.invariant.state c.take_level.ensures.level c.loop-slot.invariant.levels;
      driven = c.take_level.ensures.driven;
      call = c.take_level.ensures.call;
      time = omega (arith, c.take_level.ensures.time, time);
      size = length-set c.loop-slot.rec c.loop-slot.slot-index c.take_level.result ∙ c.loop-slot.invariant.size;
    }

pub returns-clause-levels : goal.returns-clause-levels
returns-clause-levels g c = λ t d h. c.loop-slot.invariant.levels t d (omega arith)

pub returns-clause-after : goal.returns-clause-after
returns-clause-after g c =
    let size : c.loop-slot.slot-index ≡ length c.args.rec.now = omega (arith, c.loop-slot.invariant.size) in
    c.loop-slot.invariant.state ∙ ap (λ n. bus_after c.args.hits.now n (call_on (bus_state g.P.Port.port c.args.self.now) c.args.call.now)) size
