use Rattle.std.proofs.Common.{inr, rules}
use Rattle.toml.specs.Data.{table}
use Rattle.toml.specs.View.{table_view}
use Rattle.document_values.specs.Demands.{IsFirstUnmet}
use Rattle.canhold_commands.specs.Documents.{document_demands}
use Rattle.canhold_commands.proofs.document.Document.from_text.Goals as goal

pub returns-in_err-read_tables-clause-wrong : goal.returns-in_err-read_tables-clause-wrong
returns-in_err-read_tables-clause-wrong c = λ wrong is.
    let d = table (table_view c.in_ok-fields.fields) in
    let here : IsFirstUnmet wrong (document_demands d) = search rules in
    inr (d, c.in_ok-fields.ensures.said, here)
