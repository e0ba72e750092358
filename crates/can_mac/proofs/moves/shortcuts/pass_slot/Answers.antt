use Rattle.std.proofs.Common.{rules}
use Rattle.can_mac.proofs.moves.shortcuts.pass_slot.Goals as goal

pub returns-clause-made : goal.returns-clause-made
returns-clause-made g c = search rules
