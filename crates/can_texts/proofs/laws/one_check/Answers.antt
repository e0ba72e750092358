use Rattle.can_texts.proofs.OneVerdict.{Checks-only}
use Rattle.can_texts.proofs.laws.one_check.Goals as goal

pub returns : goal.returns
returns c = Checks-only c.one_text_a_frame.ensures
