use Rattle.std.proofs.Common.{refl}
use Rattle.can_code.proofs.DecoderLemmas.{HasHeard-begin}
use Rattle.can_code.proofs.decoder.Decoder.begin.Goals as goal

pub returns : goal.returns
returns g c = HasHeard-begin _ c.begin.ensures refl
