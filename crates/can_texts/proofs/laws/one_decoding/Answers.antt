use Rattle.can_texts.proofs.FindsOne.{Finds-one}
use Rattle.can_texts.proofs.OneDecoding.{Finds-some, FullAnswer-some, FullAnswer-one}
use Rattle.can_texts.proofs.laws.one_decoding.Goals as goal

pub returns : goal.returns
returns c = record { some = Finds-some; only = Finds-one; answer = FullAnswer-some; only_answer = FullAnswer-one }
