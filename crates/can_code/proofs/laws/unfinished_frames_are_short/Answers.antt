use Rattle.can_code.proofs.DecoderLemmas.{HasHeard-short}
use Rattle.can_code.proofs.laws.unfinished_frames_are_short.Goals as goal

pub returns : goal.returns
returns c = HasHeard-short
