use Rattle.std.proofs.Common.{◌≡◌, ◌<◌, ◌∙◌, ap, length, get_or, Some, All, subst, arith, rules}
use Rattle.std.specs.List.{slice_get}
use Rattle.std.proofs.lemmas.List.{take_all}
use Rattle.std.proofs.lemmas.List.Elements.{All-get_or, All-more}
use Rattle.std.proofs.lemmas.Option.{slice_get-get_or}
use Rattle.can_frame.specs.declared.level.Level.TheVariants.{Dominant, Recessive}
use Rattle.kit_documents.proofs.cases.timed.first_dominant.Goals as goal

pub loop-place-preserved : goal.loop-place-preserved
loop-place-preserved c =
    let levels = c.args.levels.now in
    let time = get_or c.args.times.now c.loop-place.place 0 in
    let within : time < length levels = All-get_or (λ time. time < length levels) c.args.times.now c.loop-place.place 0 c.loop-place-test.true c.requires in
    let level : get_or levels time Dominant ≡ Recessive = grind (arith, rules) in
    let here : slice_get levels time ≡ Some Recessive = slice_get-get_or levels time Dominant within ∙ ap Some level in
    All-more (λ time. slice_get levels time ≡ Some Recessive) c.args.times.now c.loop-place.place 0 c.loop-place-test.true c.loop-place.invariant here

pub returns : goal.returns
returns c =
    subst (All (λ time. slice_get c.args.levels.now time ≡ Some Recessive)) (take_all c.loop-place.place c.args.times.now (omega arith)) c.loop-place.invariant
