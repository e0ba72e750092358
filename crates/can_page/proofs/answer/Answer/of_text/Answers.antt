use Rattle.std.proofs.Common.{rules}
use Rattle.can_page.proofs.answer.Answer.of_text.Goals as goal

pub returns-in-Dlc : goal.returns-in-Dlc
returns-in-Dlc c = search rules
