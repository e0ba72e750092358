use Rattle.std.proofs.Common.{rules}
use Rattle.kit_documents.proofs.cases.words.start_in.Goals as goal

pub returns-in-idle : goal.returns-in-idle
returns-in-idle c = search rules

pub returns-in-joining : goal.returns-in-joining
returns-in-joining c = search rules
