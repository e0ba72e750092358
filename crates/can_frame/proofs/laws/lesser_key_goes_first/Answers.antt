use Rattle.can_frame.proofs.FieldLemmas.{fields_ranked, key_cmp-tells, key_lt-Before}
use Rattle.can_frame.proofs.laws.lesser_key_goes_first.Goals as goal

pub returns : goal.returns
returns c = record { total = fields_ranked; by_cmp = λ f g. (key_cmp-tells f g).less; by_less = key_lt-Before }
