use Rattle.std.proofs.Common.{◌≡◌, ℕ, ◌+◌, [], ◌∷◌, ◌++◌, map, subst, arith}
use Rattle.toml.specs.View.{view}
use Rattle.kit_documents.specs.declared.field.KitField.TheVariants.{Document}
use Rattle.document_values.specs.Demands.{IsFirstUnmet}
use Rattle.kit_documents.specs.Lists.{elements_demands}
use Rattle.kit_documents.proofs.InTime.{IsReadInTime, in_time-late, in_time-met, in_time-more, in_time-said, in_time-unsaid}
use Rattle.kit_documents.proofs.elements.read_elements.Goals as goal

pub returns-in_default-clause-unmet : goal.returns-in_default-clause-unmet
returns-in_default-clause-unmet g c = λ told place is.
    let same : c.loop-place.place ≡ place = cc in
    subst (λ (p : ℕ). IsFirstUnmet (told p) (elements_demands told g.T.Element.says c.args.end c.args.apart (map view c.args.values.now))) same
    (in_time-late g.T.Element.says c.args.end c.args.apart c.args.values.now c.loop-place.place c.loop-place.least c.loop-place.read.items c.index-values-place.result told c.loop-place-test.true c.index-values-place.is c.in_default.ensures c.loop-place.invariant)

pub returns-in_default-in_value-clause-unmet : goal.returns-in_default-in_value-clause-unmet
returns-in_default-in_value-clause-unmet g c = λ told place is.
    let same : c.loop-place.place ≡ place = cc in
    subst (λ (p : ℕ). IsFirstUnmet (told p) (elements_demands told g.T.Element.says c.args.end c.args.apart (map view c.args.values.now))) same
    (in_time-unsaid g.T.Element.says c.args.end c.args.apart c.args.values.now c.loop-place.place c.loop-place.least c.loop-place.read.items c.index-values-place.result told c.loop-place-test.true c.index-values-place.is c.in_default-in_value.ensures c.loop-place.invariant)

pub loop-place-preserved : goal.loop-place-preserved
loop-place-preserved g c =
    let sum : c.in-Some.time + c.args.apart ≡ c.from.result + c.from-in-loop-place.result = omega arith in
    rw c.in_ok-push.ensures.items
    (subst (λ (n : ℕ). IsReadInTime g.T.Element.says c.args.end c.args.apart c.args.values.now (c.loop-place.place + 1) n (c.loop-place.read.items ++ c.in-Some-in_value.element ∷ [])) sum
    (in_time-more g.T.Element.says c.args.end c.args.apart c.args.values.now c.loop-place.place c.loop-place.least c.loop-place.read.items c.index-values-place.result c.in-Some.time c.in-Some-in_value.element
    c.loop-place-test.true c.index-values-place.is c.in-Some.ensures.0 c.in-Some.ensures.1 c.in-Some.ensures.2 c.in-Some-in_value.ensures c.loop-place.invariant))

pub returns-clause-said : goal.returns-clause-said
returns-clause-said g c = in_time-said g.T.Element.says c.args.end c.args.apart c.args.values.now c.loop-place.place c.loop-place.least c.loop-place.read.items (λ place. Document) (omega arith) c.loop-place.invariant

pub returns-clause-met : goal.returns-clause-met
returns-clause-met g c = λ told. in_time-met g.T.Element.says c.args.end c.args.apart c.args.values.now c.loop-place.place c.loop-place.least c.loop-place.read.items told (omega arith) c.loop-place.invariant
