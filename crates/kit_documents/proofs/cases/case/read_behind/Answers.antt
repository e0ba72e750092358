use Rattle.std.proofs.Common.{◌≡◌, map, refl, sym, subst, inr, rules}
use Rattle.std.specs.Result.{OnOk}
use Rattle.std.proofs.lemmas.Result.{on_ok_weaker}
use Rattle.toml.specs.Data.{Data, table}
use Rattle.toml.specs.View.{table_view, view}
use Rattle.document_values.specs.Demands.{AllMet, IsFirstUnmet}
use Rattle.kit_documents.specs.Cases.{case_demands}
use Rattle.kit_documents.proofs.cases.case.read_behind.Goals as goal

pub returns-clause-met : goal.returns-clause-met
returns-clause-met c =
    let is : view c.args.value.now ≡ table (table_view c.in-Some.fields.now) = search rules in
    subst (λ (d : Data). OnOk c.read_fields.result (AllMet (case_demands (map view c.args.earlier.now.tables.now) c.args.number d))) (sym is)
    (on_ok_weaker c.read_fields.result (λ met. ((table_view c.in-Some.fields.now, refl), met)) c.read_fields.ensures.met)

pub returns-clause-unmet : goal.returns-clause-unmet
returns-clause-unmet c = λ wrong err.
    let is : view c.args.value.now ≡ table (table_view c.in-Some.fields.now) = search rules in
    subst (λ (d : Data). IsFirstUnmet wrong (case_demands (map view c.args.earlier.now.tables.now) c.args.number d)) (sym is)
    (inr ((table_view c.in-Some.fields.now, refl), c.read_fields.ensures.unmet wrong err))
