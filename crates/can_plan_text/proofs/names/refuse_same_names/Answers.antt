use Rattle.std.proofs.Common.{◌≡◌, true, false, length, take, refl, rules}
use Rattle.std.specs.List.{list_any}
use Rattle.std.proofs.lemmas.Option.{slice_get_read}
use Rattle.can_plan_text.specs.declared.plan.Planned.{Planned}
use Rattle.can_plan_text.specs.Order.{is_one_name}
use Rattle.can_plan_text.proofs.OwnNames.{named-again, own-names-more}
use Rattle.can_plan_text.proofs.names.refuse_same_names.Goals as goal

pub returns-then-is_named_before-clause-repeated : goal.returns-then-is_named_before-clause-repeated
returns-then-is_named_before-clause-repeated c = λ wrong is.
    let listed = c.args.listed.now in
    let place = c.loop-place.place in
    let p = c.index-listed-place.result in
    let here = slice_get_read listed (length listed) place p refl c.loop-place-test.true c.index-listed-place.is in
    let same : list_any (λ (a : Planned). is_one_name p.name a.name) (take place listed) ≡ true = search rules in
    let there = named-again listed place p here same in
    record {
      place = place;
      told = search rules;
      apart = c.loop-place.invariant;
      before = there.0;
      earlier = there.2;
      first = there.1;
      second = p;
      is_first = there.3;
      is_second = here;
      same = there.4;
    }

pub loop-place-preserved : goal.loop-place-preserved
loop-place-preserved c =
    let listed = c.args.listed.now in
    let place = c.loop-place.place in
    let p = c.index-listed-place.result in
    let here = slice_get_read listed (length listed) place p refl c.loop-place-test.true c.index-listed-place.is in
    let other : list_any (λ (a : Planned). is_one_name p.name a.name) (take place listed) ≡ false = search rules in
    own-names-more listed place p here other c.loop-place.invariant
