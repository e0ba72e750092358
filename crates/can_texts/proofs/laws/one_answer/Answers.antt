use Rattle.can_texts.proofs.Codings.{Codes-only}
use Rattle.can_texts.proofs.laws.one_answer.Goals as goal

pub returns : goal.returns
returns c = Codes-only c.one_text_a_frame.ensures
