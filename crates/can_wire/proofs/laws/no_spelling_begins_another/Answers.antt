use Rattle.can_wire.proofs.SpellingFronts.{Spells-apart}
use Rattle.can_wire.proofs.laws.no_spelling_begins_another.Goals as goal

pub returns : goal.returns
returns c = Spells-apart
