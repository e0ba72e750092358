use Rattle.can_frame.proofs.LayoutLemmas.{standard_key}
use Rattle.can_frame.proofs.key.Key.standard.Goals as goal

pub returns : goal.returns
returns c = (standard_key c.args.raw c.args.remote c.from.result c.from.ensures c.requires).is

pub invariant_of-result : goal.invariant_of-result
invariant_of-result c = (standard_key c.args.raw c.args.remote c.from.result c.from.ensures c.requires).kept
