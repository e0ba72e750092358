use Rattle.std.proofs.Common.{◌≡◌, ◌+◌, Some, drop, ◌++◌, ◌∷◌, [], List, map, refl, sym, subst, arith, rules}
use Rattle.std.proofs.lemmas.Grind.{common_steps}
use Rattle.std.proofs.lemmas.List.{at_drop_all}
use Rattle.toml.specs.Data.{Data}
use Rattle.toml.specs.View.{view}
use Rattle.can_terms.specs.declared.hit.Hit.{Hit}
use Rattle.can_scenario_text.proofs.HitLemmas.{IsReading, IsReading-more, IsReading-said, IsReading-unmet, next_value}
use Rattle.can_scenario_text.proofs.scenario.hits.read_elements.Goals as goal

pub returns-in_default-clause-unmet : goal.returns-in_default-clause-unmet
returns-in_default-clause-unmet c = λ wrong is.
    let ds = map view c.args.values.now in
    let next = next_value c.args.values.now c.loop-place.place c.index-values-place.result c.loop-place-test.true c.index-values-place.is in
    let here = subst (λ (rest : List Data). IsReading c.args.list c.args.ports ds c.args.hits.now.items c.loop-place.place c.loop-place.before rest c.loop-place.hits.items) next c.loop-place.invariant in
    IsReading-unmet c.args.list c.args.ports ds c.args.hits.now.items c.loop-place.place c.loop-place.before _ _ c.loop-place.hits.items wrong here (c.in_default.ensures.unsound refl) is

pub loop-place-preserved : goal.loop-place-preserved
loop-place-preserved c =
    let ds = map view c.args.values.now in
    let next = next_value c.args.values.now c.loop-place.place c.index-values-place.result c.loop-place-test.true c.index-values-place.is in
    let here = subst (λ (rest : List Data). IsReading c.args.list c.args.ports ds c.args.hits.now.items c.loop-place.place c.loop-place.before rest c.loop-place.hits.items) next c.loop-place.invariant in
    let more = IsReading-more c.args.list c.args.ports ds c.args.hits.now.items c.loop-place.place c.loop-place.before _ _ c.loop-place.hits.items c.in-Some.hit here c.in-Some.ensures.said c.in-Some.ensures.sound in
    let added : c.push.new.self.items ≡ c.loop-place.hits.items ++ c.in-Some.hit ∷ [] = first_of (search rules, grind (arith, common_steps)) in
    subst (λ (hits : List Hit). IsReading c.args.list c.args.ports ds c.args.hits.now.items (c.loop-place.place + 1) (Some c.in-Some.hit) (map view (drop (c.loop-place.place + 1) c.args.values.now)) hits) (sym added) more

pub returns-clause-said : goal.returns-clause-said
returns-clause-said c =
    let ds = map view c.args.values.now in
    let none = at_drop_all (map view) c.args.values.now c.loop-place.place (omega arith) in
    let read = subst (λ (rest : List Data). IsReading c.args.list c.args.ports ds c.args.hits.now.items c.loop-place.place c.loop-place.before rest c.loop-place.hits.items) none c.loop-place.invariant in
    IsReading-said c.args.list c.args.ports ds c.args.hits.now.items c.loop-place.place c.loop-place.before c.loop-place.hits.items read
