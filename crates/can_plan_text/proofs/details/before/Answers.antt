use Rattle.std.proofs.Common.{take, ap, ◌∙◌}
use Rattle.std.proofs.lemmas.List.{take_min}
use Rattle.can_plan_text.proofs.details.before.Goals as goal

pub returns : goal.returns
returns c = ap (λ n. take n c.args.messages.now) c.min.ensures ∙ take_min c.args.place c.args.messages.now
