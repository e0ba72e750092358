use Rattle.std.proofs.Common.{◌≡◌, ◌<◌, ◌/◌, length, true, false, rules, arith, sym, ◌∙◌}
use Rattle.can_bus.specs.Wired.{wired}
use Rattle.can_bus.proofs.WiredLemmas.{wired_is, chunk_dominant, chunk_recessive}
use Rattle.can_bus.proofs.wire.wired.Goals as goal

pub returns-then-not-is_recessive : goal.returns-then-not-is_recessive
returns-then-not-is_recessive c =
    let low : c.is_recessive.result ≡ false = search rules in
    let within : c.loop-vector.vector-index < length c.args.levels.now / 32 = omega (arith, c.as_chunks.ensures.front_len, c.loop-vector-test.true) in
    chunk_dominant wired wired_is c.args.levels.now 32 (length c.args.levels.now / 32) c.loop-vector.vector-index c.as_chunks.result.0.now _ c.wired_lanes.result
    c.as_chunks.ensures.front within c.loop-vector.invariant c.wired_lanes.ensures (sym c.is_recessive.ensures ∙ low)

pub loop-vector-preserved : goal.loop-vector-preserved
loop-vector-preserved c =
    let high : c.is_recessive.result ≡ true = search rules in
    let within : c.loop-vector.vector-index < length c.args.levels.now / 32 = omega (arith, c.as_chunks.ensures.front_len, c.loop-vector-test.true) in
    chunk_recessive wired wired_is c.args.levels.now 32 (length c.args.levels.now / 32) c.loop-vector.vector-index c.as_chunks.result.0.now _ c.wired_lanes.result
    c.as_chunks.ensures.front within c.loop-vector.invariant c.wired_lanes.ensures (sym c.is_recessive.ensures ∙ high)

pub returns : goal.returns
returns c = search rules
