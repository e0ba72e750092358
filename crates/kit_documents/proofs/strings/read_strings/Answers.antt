use Rattle.std.proofs.Common.{◌≡◌, ℕ, true, false, map, subst, arith, rules}
use Rattle.toml.specs.View.{view}
use Rattle.document_values.specs.Demands.{IsFirstUnmet}
use Rattle.kit_documents.specs.Lists.{strings_demands}
use Rattle.kit_documents.proofs.LevelStrings.{strings-met, strings-more, strings-none, strings-other, strings-said}
use Rattle.kit_documents.proofs.strings.read_strings.Goals as goal

pub loop-place-init : goal.loop-place-init
loop-place-init c = rw c.new-levels.ensures.items (strings-none c.args.values.now c.args.most)

pub returns-then-not-branch-clause-unmet : goal.returns-then-not-branch-clause-unmet
returns-then-not-branch-clause-unmet c = λ told place is.
    let same : c.loop-place.place ≡ place = cc in
    let said : c.in_ok-read_string.field-0 ≡ false = search rules in
    subst (λ (p : ℕ). IsFirstUnmet (told p) (strings_demands told (map view c.args.values.now))) same
    (strings-other c.args.values.now c.args.most c.loop-place.place c.loop-place.levels.items c.index-values-place.result told c.loop-place-test.true c.index-values-place.is (c.in_ok-read_string.ensures.none said) c.loop-place.invariant)

pub loop-place-preserved : goal.loop-place-preserved
loop-place-preserved c =
    let said : c.in_ok-read_string.field-0 ≡ true = search rules in
    strings-more c.args.values.now c.args.most c.loop-place.place c.loop-place.levels.items c.read_string.new.levels.items c.index-values-place.result c.loop-place-test.true c.index-values-place.is (c.in_ok-read_string.ensures.said said) c.loop-place.invariant

pub returns-clause-said : goal.returns-clause-said
returns-clause-said c = strings-said c.args.values.now c.args.most c.loop-place.place c.loop-place.levels.items (omega arith) c.loop-place.invariant

pub returns-clause-met : goal.returns-clause-met
returns-clause-met c = λ told. strings-met c.args.values.now c.args.most c.loop-place.place c.loop-place.levels.items told (omega arith) c.loop-place.invariant
