use Rattle.can_frame.proofs.OneText.{same_frame}
use Rattle.can_frame.proofs.text.one_text_a_frame.Goals as goal

pub returns : goal.returns
returns c = same_frame
