use Rattle.std.proofs.Common.{◌≡◌, List, codes, inl, inr}
use Rattle.toml.specs.Data.{table}
use Rattle.toml.specs.View.{table_view}
use Rattle.can_terms.specs.declared.script.Start.{Start}
use Rattle.kit_documents.specs.declared.field.CaseField.TheVariants as of_case
use Rattle.document_values.specs.Values.{named, IsRequired}
use Rattle.kit_documents.specs.declared.cases.words.Choice.{Choice}
use Rattle.kit_documents.specs.Cases.{in_case}
use Rattle.kit_documents.specs.CaseWords.{SaysChoices, SaysStart}
use Rattle.kit_documents.proofs.WordLists.{match-none, start-said}
use Rattle.kit_documents.proofs.cases.head.read_head.Goals as goal

pub returns-in_default-2-clause-unmet : goal.returns-in_default-2-clause-unmet
returns-in_default-2-clause-unmet c = λ wrong is.
    let d = table (table_view c.args.fields.now) in
    let same : in_case c.args.number of_case.Choices ≡ wrong = cc in
    let start : IsRequired (λ value. (s : Start) × SaysStart value s) (named (codes "start") d) = start-said (named (codes "start") d) c.in-Some.start c.in-Some.ensures.said in
    let none : (choices : List Choice) → SaysChoices (named (codes "choices") d) choices → ⊥ = match-none c.in_ok-choices.field-0 _ _ c.in_default-2.is c.in_ok-choices.ensures in
    inr (start, inr ((c.in-Some-needs_in.needs, c.in-Some-needs_in.ensures), inl (same, λ met. none met.0 met.1)))
