use Rattle.std.proofs.Common.{◌+◌, sym, ◌∙◌, arith}
use Rattle.std.proofs.lemmas.Bool.{eqb-true}
use Rattle.can_texts.proofs.BlockMasks.{text_by_masks}
use Rattle.can_texts.proofs.traces.masks.is_text.Goals as goal

pub returns : goal.returns
returns c full =
    text_by_masks c.args.block.now (omega arith) ((λ i. sym c.digits_of.ensures.places i + sym c.skipped_of.ensures.places i) ∙ eqb-true _ 65535 full)
