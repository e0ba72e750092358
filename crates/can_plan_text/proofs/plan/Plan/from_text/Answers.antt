use Rattle.std.proofs.Common.{◌≡◌, ℕ, List, length, map, codes, refl, subst, sym, inr, arith, rules}
use Rattle.std.proofs.lemmas.List.{length-map}
use Rattle.toml.specs.Data.{Data, table}
use Rattle.toml.specs.View.{view, table_view}
use Rattle.document_values.specs.Demands.{IsFirstUnmet}
use Rattle.document_values.specs.Values.{named, ArePaired}
use Rattle.can_plan_text.specs.Order.{IsNamedAgain, IsRepeated}
use Rattle.can_plan_text.specs.Plans.{SaysErrors, SaysMessage, messages_in, rate_in, plan_top_demands}
use Rattle.document_values.proofs.ReadLists.{length-paired}
use Rattle.can_plan_text.proofs.PlanParts.{listed-unmet, named-again-unmet, plan-met, repeated-unmet, top-unmet}
use Rattle.can_plan_text.proofs.plan.Plan.from_text.Goals as goal

pub returns-in_err-top-clause-wrong : goal.returns-in_err-top-clause-wrong
returns-in_err-top-clause-wrong c = λ wrong told.
    let document : Data = table (table_view c.in_ok-document.document) in
    let unmet : IsFirstUnmet wrong (plan_top_demands document) = search rules in
    inr (document, c.in_ok-document.ensures.said, top-unmet document (messages_in document) (rate_in document) refl refl wrong unmet)

pub returns-in_err-listed-clause-wrong : goal.returns-in_err-listed-clause-wrong
returns-in_err-listed-clause-wrong c = λ wrong told.
    let document : Data = table (table_view c.in_ok-document.document) in
    let top = c.in_ok-top.ensures in
    let ds = map view c.in_ok-top.top.messages.now in
    inr (document, c.in_ok-document.ensures.said, listed-unmet document ds c.in_ok-top.top.rate top.messages top.rate wrong top.met (search rules))

pub returns-in_err-messages-clause-wrong : goal.returns-in_err-messages-clause-wrong
returns-in_err-messages-clause-wrong c = λ wrong told.
    let document : Data = table (table_view c.in_ok-document.document) in
    let top = c.in_ok-top.ensures in
    let ds = map view c.in_ok-top.top.messages.now in
    let repeated : IsRepeated wrong c.in_ok-listed.listed.items = search rules in
    inr (document, c.in_ok-document.ensures.said, repeated-unmet document ds c.in_ok-top.top.rate top.messages top.rate top.met c.in_ok-listed.ensures.met c.in_ok-listed.listed.items c.in_ok-listed.ensures.said wrong repeated)

pub returns-in_err-refuse_same_names-clause-wrong : goal.returns-in_err-refuse_same_names-clause-wrong
returns-in_err-refuse_same_names-clause-wrong c = λ wrong told.
    let document : Data = table (table_view c.in_ok-document.document) in
    let top = c.in_ok-top.ensures in
    let ds = map view c.in_ok-top.top.messages.now in
    let again : IsNamedAgain wrong c.in_ok-listed.listed.items = search rules in
    inr (document, c.in_ok-document.ensures.said, named-again-unmet document ds c.in_ok-top.top.rate top.messages top.rate top.met c.in_ok-listed.ensures.met c.in_ok-listed.listed.items c.in_ok-listed.ensures.said wrong (search rules) again)

pub invariant_of-result : goal.invariant_of-result
invariant_of-result c =
    let ds = map view c.in_ok-top.top.messages.now in
    let count : length ds ≡ length c.in_ok-listed.listed.items = length-paired (SaysMessage c.in_ok-top.top.rate) ds _ c.in_ok-listed.ensures.said in
    let size : length ds ≡ length c.in_ok-top.top.messages.now = length-map _ view in
    let same : length c.in_ok-messages.messages.items ≡ length c.in_ok-listed.listed.items = search rules in
    let few = c.in_ok-top.ensures.few in
    record { few = omega (arith, count, size, same, few) }

pub returns-clause-found : goal.returns-clause-found
returns-clause-found c =
    let document : Data = table (table_view c.in_ok-document.document) in
    let top = c.in_ok-top.ensures in
    let ds = map view c.in_ok-top.top.messages.now in
    let listed = c.in_ok-listed.listed.items in (
      document,
      c.in_ok-document.ensures.said,
      record {
        met = plan-met document ds c.in_ok-top.top.rate top.messages top.rate top.met c.in_ok-listed.ensures.met listed c.in_ok-listed.ensures.said (search rules) (search rules);
        rate = top.rate;
        errors = subst (λ (r : ℕ). SaysErrors r (named (codes "errors") document) c.in_ok-top.top.errors) (sym top.rate) top.errors;
        listed = listed;
        messages = subst (λ (xs : List Data). ArePaired (SaysMessage c.in_ok-top.top.rate) xs listed) top.messages c.in_ok-listed.ensures.said;
        ordered = search rules;
      },
    )
