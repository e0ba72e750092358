use Rattle.std.proofs.Common.{rules}
use Rattle.kit_documents.proofs.tables.is_of_version_one.Goals as goal

pub returns-in-Some : goal.returns-in-Some
returns-in-Some c = search rules
