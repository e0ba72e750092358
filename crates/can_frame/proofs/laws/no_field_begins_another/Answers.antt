use Rattle.can_frame.proofs.FieldLemmas.{fields_apart}
use Rattle.can_frame.proofs.laws.no_field_begins_another.Goals as goal

pub returns : goal.returns
returns c = fields_apart
