use Rattle.std.proofs.Common.{◌≡◌, ◌+◌, ◌^◌, length, ap, ◌∙◌, arith}
use Rattle.can_texts.specs.TraceText.{is_skipped}
use Rattle.can_texts.proofs.BlockMasks.{mask-small, skipped_places}
use Rattle.can_texts.proofs.traces.masks.skipped_of.Goals as goal

pub returns-clause-places : goal.returns-clause-places
returns-clause-places c =
    (λ i. c.places_of.ensures.places i + c.places_of-2.ensures.places i + c.places_of-3.ensures.places i) ∙ skipped_places c.args.block.now

pub returns-clause-small : goal.returns-clause-small
returns-clause-small c =
    let block = c.args.block.now in
    let size : length block ≡ 16 = omega arith in
    omega (arith, c.places_of.ensures.places, c.places_of-2.ensures.places, c.places_of-3.ensures.places, skipped_places block, mask-small is_skipped block, ap (λ n. 2 ^ n) size)
