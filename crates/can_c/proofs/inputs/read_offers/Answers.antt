use Rattle.std.proofs.Common.{◌++◌, ◌∷◌, [], Some, take, inr, sym, ap, arith, ◌∙◌}
use Rattle.std.proofs.lemmas.List.{map_more, take_all}
use Rattle.std.proofs.lemmas.Result.{err_from_is_err_and}
use Rattle.can_c.specs.declared.inputs.PlainOffer.{PlainOffer}
use Rattle.can_c.specs.PlainFrames.{refusal}
use Rattle.can_c.specs.PlainInputs.{offer_of_plain, offers_of_plain}
use Rattle.can_c.proofs.InputLemmas.{first-here, none-at-all, none-more}
use Rattle.can_c.proofs.inputs.read_offers.Goals as goal

pub returns-in_err-offer-clause-refused : goal.returns-in_err-offer-clause-refused
returns-in_err-offer-clause-refused c =
    let p = err_from_is_err_and c.from_residual-in_err-offer.result c.from_residual-in_err-offer.ensures.1 in
    rw p.1 (inr (first-here (λ (o : PlainOffer). refusal o.frame) c.args.plain.now c.loop-place.place _ c.in_err-offer.field-0.0 c.loop-place-test.true c.loop-place.invariant.none c.in_err-offer.ensures.refused ∙ ap Some (sym p.2)))

pub loop-place-preserved : goal.loop-place-preserved
loop-place-preserved c = record {
  offers = c.in_ok-push.ensures.items ∙ ap (λ xs. xs ++ c.in_ok-offer.field-0 ∷ []) c.loop-place.invariant.offers
      ∙ ap (λ x. offers_of_plain (take c.loop-place.place c.args.plain.now) ++ x ∷ []) c.in_ok-offer.ensures.offer
      ∙ sym (map_more offer_of_plain c.args.plain.now c.loop-place.place _ c.loop-place-test.true);
  none = none-more (λ (o : PlainOffer). refusal o.frame) c.args.plain.now c.loop-place.place _ c.loop-place-test.true c.loop-place.invariant.none c.in_ok-offer.ensures.none;
}

pub returns-clause-offers : goal.returns-clause-offers
returns-clause-offers c = c.loop-place.invariant.offers ∙ ap offers_of_plain (take_all c.loop-place.place c.args.plain.now (omega arith))

pub returns-clause-none : goal.returns-clause-none
returns-clause-none c = none-at-all (λ (o : PlainOffer). refusal o.frame) c.args.plain.now c.loop-place.place (omega arith) c.loop-place.invariant.none
