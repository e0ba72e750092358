use Rattle.std.proofs.Common.{◌<◌, length, ap, arith, ◌∙◌, length-set}
use Rattle.can_frame.specs.Levels.{level_code}
use Rattle.can_bus.specs.Run.{hits_view, inverted_if}
use Rattle.can_bus.specs.WireSteps.{wire_seen}
use Rattle.can_c.specs.PlainInputs.{hits_of_plain}
use Rattle.can_c.proofs.WireLemmas.{any-hit, told-more}
use Rattle.can_c.proofs.plain_wire.tell_each.Goals as goal

pub loop-number-preserved : goal.loop-number-preserved
loop-number-preserved c =
    let hits = hits_of_plain c.args.hits.now in
    let time = c.args.moment.now.time in
    let within : c.loop-number.number < length c.loop-number.seen = omega (arith, c.loop-number-test.true, c.loop-number.invariant.len) in
    record {
      told = told-more (λ t. level_code (wire_seen hits time c.args.level t)) c.loop-number.seen c.loop-number.number c.told.result within c.loop-number.invariant.told
          (c.told.ensures ∙ ap (λ hit. level_code (inverted_if hit c.args.level)) (c.falls_at.ensures ∙ any-hit (hits_view time c.loop-number.number) c.args.hits.now));
      len = length-set c.loop-number.seen c.loop-number.number c.told.result ∙ c.loop-number.invariant.len;
    }
