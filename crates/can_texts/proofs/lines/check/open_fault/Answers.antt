use Rattle.std.proofs.Common.{inr, refl}
use Rattle.can_texts.proofs.lines.check.open_fault.Goals as goal

pub returns-in_default : goal.returns-in_default
returns-in_default c = inr (refl, λ place bad. let byte = c.judge.ensures.byte place bad in cc)

pub returns-in_default-2 : goal.returns-in_default-2
returns-in_default-2 c = inr (refl, λ place bad. let byte = c.judge.ensures.byte place bad in cc)
