use Rattle.std.proofs.Common.{◌≡◌, [], length, map, take, sym, subst, ◌∙◌, arith}
use Rattle.std.proofs.lemmas.List.{length-map, length-take-le}
use Rattle.toml.specs.View.{view}
use Rattle.kit_documents.specs.Untold.{HasUntold}
use Rattle.kit_documents.proofs.UntoldPlaces.{tables-more, untold-case}
use Rattle.kit_documents.proofs.transcripts.known.places_of.Goals as goal

pub loop-place-preserved : goal.loop-place-preserved
loop-place-preserved c =
    let cases = c.args.cases.now in
    let place = c.loop-place.place in
    let value = c.index-cases-place.result in
    let last : place ≡ length (map view (take place cases)) =
    sym (length-map (take place cases) view ∙ length-take-le place cases (omega arith)) in
    subst (λ ds. HasUntold c.add_place.new.places ds []) (sym (tables-more cases place value c.loop-place-test.true c.index-cases-place.is))
    (untold-case c.loop-place.places c.add_place.new.places (map view (take place cases)) (view value) c.text_said-name.result.now place last c.text_said-name.ensures c.in_ok-add_place.ensures c.loop-place.invariant)
