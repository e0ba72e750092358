use Rattle.can_wire.proofs.SpellingFronts.{Spells-one}
use Rattle.can_wire.proofs.laws.one_heard.Goals as goal

pub returns : goal.returns
returns c = Spells-one
