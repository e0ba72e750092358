use Rattle.std.proofs.Common.{arith, length-set, ◌∙◌}
use Rattle.can_frame.specs.declared.level.Level.TheVariants.{Dominant}
use Rattle.can_bus.proofs.WiredLemmas.{bits_more, bits_all}
use Rattle.can_bus.proofs.wire.lanes.Goals as goal

pub loop-place-preserved : goal.loop-place-preserved
loop-place-preserved c =
    record {
      done = bits_more c.args.levels.now c.loop-place.bits c.loop-place.place c.code.result Dominant (omega arith) (omega arith) c.loop-place.invariant.done c.code.ensures;
      whole = length-set c.loop-place.bits c.loop-place.place c.code.result ∙ c.loop-place.invariant.whole;
    }

pub returns-clause-lanes : goal.returns-clause-lanes
returns-clause-lanes c = bits_all c.args.levels.now c.loop-place.bits c.loop-place.place (omega arith) (omega arith) c.loop-place.invariant.done
