use Rattle.std.proofs.Common.{◌≡◌, ◌^◌, length, ap, arith}
use Rattle.can_texts.specs.TraceText.{is_skipped}
use Rattle.can_texts.proofs.BlockMasks.{mask-not}
use Rattle.can_texts.proofs.traces.masks.others_of.Goals as goal

pub returns : goal.returns
returns c =
    let block = c.args.block.now in
    let size : length block ≡ 16 = omega arith in
    omega (arith, c.skipped_of.ensures.places, mask-not is_skipped block, ap (λ n. 2 ^ n) size)
