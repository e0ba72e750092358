use Rattle.can_frame.proofs.FieldLemmas.{field_tells}
use Rattle.can_frame.proofs.laws.field_tells_identifier_and_kind.Goals as goal

pub returns : goal.returns
returns c = λ f g is_f is_g. field_tells f g is_f.id is_g.id
