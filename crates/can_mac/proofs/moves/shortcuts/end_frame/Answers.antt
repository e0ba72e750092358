use Rattle.std.proofs.Common.{rules}
use Rattle.can_mac.proofs.moves.shortcuts.end_frame.Goals as goal

pub returns-in-Receiver-clause-made : goal.returns-in-Receiver-clause-made
returns-in-Receiver-clause-made g c = search rules

pub returns-in-Receiver-2-clause-made : goal.returns-in-Receiver-2-clause-made
returns-in-Receiver-2-clause-made g c = search rules

pub returns-in-Sender-clause-made : goal.returns-in-Sender-clause-made
returns-in-Sender-clause-made g c = search rules
