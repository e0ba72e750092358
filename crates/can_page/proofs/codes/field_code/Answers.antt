use Rattle.std.proofs.Common.{rules}
use Rattle.can_page.proofs.codes.field_code.Goals as goal

pub returns-in-Data : goal.returns-in-Data
returns-in-Data c = search rules
