use Rattle.can_wire.proofs.SpellingLemmas.{Spells-spelling, Spells-only, spelling-sent}
use Rattle.can_wire.proofs.laws.one_spelling.Goals as goal

pub returns-clause-exists : goal.returns-clause-exists
returns-clause-exists c = Spells-spelling

pub returns-clause-only : goal.returns-clause-only
returns-clause-only c = Spells-only

pub returns-clause-sent : goal.returns-clause-sent
returns-clause-sent c = spelling-sent
