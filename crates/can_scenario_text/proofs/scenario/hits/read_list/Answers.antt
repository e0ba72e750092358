use Rattle.std.proofs.Common.{◌≡◌, None, List, map, sym, ap, ◌∙◌, subst, inr}
use Rattle.std.specs.Result.{OnOk}
use Rattle.std.proofs.lemmas.Result.{on_ok_weaker}
use Rattle.toml.specs.Data.{Data, table}
use Rattle.toml.specs.View.{view, table_view}
use Rattle.document_values.specs.Demands.{AllMet, IsFirstUnmet}
use Rattle.document_values.specs.Values.{IsArray, IsOptional, elements_in, named}
use Rattle.can_scenario_text.specs.Scenarios.{AddsHits, hit_demands, list_name}
use Rattle.can_scenario_text.proofs.HitLemmas.{is_array}
use Rattle.can_scenario_text.proofs.scenario.hits.read_list.Goals.{After-read_elements}
use Rattle.can_scenario_text.proofs.scenario.hits.read_list.Goals as goal

-- the field is an array, and the values that are read are its elements
array_read : (c : After-read_elements) → IsOptional IsArray (named (list_name c.args.list) (table (table_view c.args.document.now)))
    × (map view c.deref.result.now ≡ elements_in (named (list_name c.args.list) (table (table_view c.args.document.now))))
array_read c =
    let document = table (table_view c.args.document.now) in
    let some = ap (λ name. named name document) (sym c.name_of.ensures) ∙ sym c.in-Some.ensures in
    let is = is_array c.args.list document (view c.in-Some.value.now) c.in-Some-as_array.values.now.items some (sym c.in-Some-as_array.ensures) in
    (is.0, ap (map view) c.deref.ensures.value ∙ sym is.1)

pub returns-clause-said : goal.returns-clause-said
returns-clause-said c =
    subst (λ (ds : List Data). OnOk c.read_elements.result (AddsHits c.args.list ds c.args.hits.now.items c.read_elements.new.hits.items)) (array_read c).1 c.read_elements.ensures.said

pub returns-clause-met : goal.returns-clause-met
returns-clause-met c =
    on_ok_weaker c.read_elements.result
    (λ met. ((array_read c).0, subst (λ (ds : List Data). AllMet (hit_demands c.args.list c.args.ports 0 None ds)) (array_read c).1 met))
    c.read_elements.ensures.met

pub returns-clause-unmet : goal.returns-clause-unmet
returns-clause-unmet c = λ wrong is.
    inr ((array_read c).0, subst (λ (ds : List Data). IsFirstUnmet wrong (hit_demands c.args.list c.args.ports 0 None ds)) (array_read c).1 (c.read_elements.ensures.unmet wrong is))
