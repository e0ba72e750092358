use Rattle.std.proofs.Common.{ap, ◌∙◌}
use Rattle.can_wire.specs.Heard.{spelling}
use Rattle.can_wire.proofs.SpellingLemmas.{spelling-unacknowledged}
use Rattle.can_wire.proofs.encoding.encode_into.Goals as goal

pub returns-clause-levels : goal.returns-clause-levels
returns-clause-levels c = c.respell_into.ensures.levels ∙ ap spelling c.unacknowledged.ensures ∙ spelling-unacknowledged c.args.frame.now
