use Rattle.can_frame.proofs.LayoutLemmas.{extended_key}
use Rattle.can_frame.proofs.key.Key.extended.Goals as goal

pub returns : goal.returns
returns c = (extended_key c.args.raw c.args.remote c.from.result c.from.ensures c.requires).is

pub invariant_of-result : goal.invariant_of-result
invariant_of-result c = (extended_key c.args.raw c.args.remote c.from.result c.from.ensures c.requires).kept
