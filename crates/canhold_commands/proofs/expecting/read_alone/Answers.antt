use Rattle.std.proofs.Common.{◌≡◌, subst, rules}
use Rattle.toml.specs.Data.{table}
use Rattle.toml.specs.View.{table_view}
use Rattle.kit_documents.specs.declared.field.KitField.{KitField}
use Rattle.kit_documents.specs.declared.field.KitField.TheVariants as field
use Rattle.document_values.specs.Demands.{IsFirstUnmet}
use Rattle.canhold_commands.specs.Documents.{document_demands, IsWrongKitField}
use Rattle.canhold_commands.specs.Expectations.{cases_alone_demands, HasCasesAlone}
use Rattle.canhold_commands.proofs.CasesAlone.{listed, none-mapped, wrong-alone}
use Rattle.canhold_commands.proofs.expecting.read_alone.Goals as goal

pub returns-in_err-document-clause-wrong : goal.returns-in_err-document-clause-wrong
returns-in_err-document-clause-wrong c = λ wrong is.
    let d = table (table_view c.in_ok-fields.fields) in
    let here : IsFirstUnmet wrong (document_demands d) = search rules in
    wrong-alone wrong c.args.text.now d c.in_ok-fields.ensures.said here

pub returns-then-is_some-clause-wrong : goal.returns-then-is_some-clause-wrong
returns-then-is_some-clause-wrong c = λ wrong is.
    let d = table (table_view c.in_ok-fields.fields) in
    let same : field.Transcripts ≡ wrong = search rules in
    let some : ¬ HasCasesAlone d = λ none.
    let left_out = none-mapped _ c.field.result _ c.field.ensures none in
    search (rules, left_out) in
    subst (λ (w : KitField). IsWrongKitField cases_alone_demands w c.args.text.now) same (listed c.args.text.now d c.in_ok-fields.ensures.said c.in_ok-document.ensures.said.met some)
