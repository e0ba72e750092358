use Rattle.std.proofs.Common.{◌≤◌, List, length, map, take, sym, subst, arith, rules}
use Rattle.std.proofs.lemmas.List.{take-map}
use Rattle.std.proofs.lemmas.List.Elements.{All-push}
use Rattle.toml.specs.Data.{Data}
use Rattle.toml.specs.View.{view}
use Rattle.document_values.specs.Demands.{AllMet, IsFirstUnmet}
use Rattle.document_values.proofs.ReadLists.{IsRead-more, said-all, unmet-next}
use Rattle.kit_documents.specs.Cases.{case_demands, longest_case, SaysCase}
use Rattle.kit_documents.proofs.cases.case.read_cases.Goals as goal

pub returns-in_err-read_behind-clause-unmet : goal.returns-in_err-read_behind-clause-unmet
returns-in_err-read_behind-clause-unmet c = λ wrong is.
    let values = c.args.values.now in
    let number = c.loop-number.number in
    let here : IsFirstUnmet wrong (case_demands (map view (take number values)) number (view c.index-values-number.result)) = search rules in
    unmet-next (λ place d. case_demands (take place (map view values)) place d) SaysCase values number _ c.index-values-number.result wrong c.loop-number-test.true c.index-values-number.is
    (subst (λ (earlier : List Data). IsFirstUnmet wrong (case_demands earlier number (view c.index-values-number.result))) (sym (take-map view number values)) here) c.loop-number.invariant.0

pub loop-number-preserved : goal.loop-number-preserved
loop-number-preserved c =
    let values = c.args.values.now in
    let number = c.loop-number.number in
    let here : AllMet (case_demands (map view (take number values)) number (view c.index-values-number.result)) = search rules in
    rw c.in_ok-push.ensures.items (
      IsRead-more (λ place d. case_demands (take place (map view values)) place d) SaysCase values number _ c.index-values-number.result _ c.loop-number-test.true c.index-values-number.is
          (subst (λ (earlier : List Data). AllMet (case_demands earlier number (view c.index-values-number.result))) (sym (take-map view number values)) here) c.in_ok-read_behind.ensures.said c.loop-number.invariant.0,
      All-push (λ one. length one.script.tester.items ≤ longest_case) _ _ c.loop-number.invariant.1 c.in_ok-read_behind.ensures.short,
      search rules,
    )

pub returns-clause-said : goal.returns-clause-said
returns-clause-said c =
    let values = c.args.values.now in
    said-all (λ number d. case_demands (take number (map view values)) number d) SaysCase values c.loop-number.number _ (omega arith) c.loop-number.invariant.0
