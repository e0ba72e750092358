use Rattle.std.proofs.Common.{List, map, take, sym, subst, ◌∙◌, arith, rules}
use Rattle.std.proofs.lemmas.List.{take-map}
use Rattle.std.proofs.lemmas.List.Elements.{All-push}
use Rattle.toml.specs.Data.{Data}
use Rattle.toml.specs.View.{view}
use Rattle.toml.specs.declared.value.Value.{Value}
use Rattle.can_terms.specs.Cases.{IsTold}
use Rattle.document_values.specs.Demands.{AllMet, IsFirstUnmet}
use Rattle.document_values.proofs.ReadLists.{IsRead-more, said-all, unmet-next}
use Rattle.kit_documents.specs.Transcripts.{transcript_demands, SaysTranscript}
use Rattle.kit_documents.proofs.transcripts.told.read_transcripts.Goals as goal

pub returns-in_err-told-clause-unmet : goal.returns-in_err-told-clause-unmet
returns-in_err-told-clause-unmet c = λ wrong is.
    let cases = map view c.args.cases.now in
    let values = c.args.values.now in
    let number = c.loop-number.number in
    let here : IsFirstUnmet wrong (transcript_demands cases (map view (take number values)) number (view c.index-values-number.result)) = search rules in
    unmet-next (λ place d. transcript_demands cases (take place (map view values)) place d) (SaysTranscript cases) values number _ c.index-values-number.result wrong c.loop-number-test.true c.index-values-number.is
    (subst (λ (earlier : List Data). IsFirstUnmet wrong (transcript_demands cases earlier number (view c.index-values-number.result))) (sym (take-map view number values)) here) c.loop-number.invariant.0

pub loop-number-preserved : goal.loop-number-preserved
loop-number-preserved c =
    let cases = map view c.args.cases.now in
    let values = c.args.values.now in
    let number = c.loop-number.number in
    let here : AllMet (transcript_demands cases (map view (take number values)) number (view c.index-values-number.result)) = search rules in
    let says : SaysTranscript cases (view c.index-values-number.result) c.in_ok-told.told =
    subst (λ (vs : List Value). SaysTranscript (map view vs) (view c.index-values-number.result) c.in_ok-told.told) (c.keep_where_it_pays.ensures.cases ∙ c.loop-number.invariant.2) c.in_ok-told.ensures.said in
    rw c.in_ok-push.ensures.items (
      IsRead-more (λ place d. transcript_demands cases (take place (map view values)) place d) (SaysTranscript cases) values number _ c.index-values-number.result _ c.loop-number-test.true c.index-values-number.is
          (subst (λ (earlier : List Data). AllMet (transcript_demands cases earlier number (view c.index-values-number.result))) (sym (take-map view number values)) here) says c.loop-number.invariant.0,
      All-push (λ one. IsTold one.transcript) _ _ c.loop-number.invariant.1 c.in_ok-told.ensures.told,
      search rules,
      search rules,
    )

pub returns-clause-said : goal.returns-clause-said
returns-clause-said c =
    let cases = map view c.args.cases.now in
    let values = c.args.values.now in
    said-all (λ number d. transcript_demands cases (take number (map view values)) number d) (SaysTranscript cases) values c.loop-number.number _ (omega arith) c.loop-number.invariant.0
