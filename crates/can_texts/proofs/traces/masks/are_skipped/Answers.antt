use Rattle.std.proofs.Common.{sym, ◌∙◌, arith}
use Rattle.std.proofs.lemmas.Bool.{eqb-true}
use Rattle.can_texts.proofs.BlockMasks.{skipped_by_mask}
use Rattle.can_texts.proofs.traces.masks.are_skipped.Goals as goal

pub returns : goal.returns
returns c full = skipped_by_mask c.args.block.now (omega arith) (sym c.skipped_of.ensures.places ∙ eqb-true _ 65535 full)
