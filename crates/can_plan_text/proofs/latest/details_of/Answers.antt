use Rattle.std.proofs.Common.{◌≡◌, ◌+◌, ◌<◌, List, ◌∷◌, [], length, get_or, Some, ap, refl, sym, ◌∙◌, arith, rules}
use Rattle.std.specs.Prelude.{slice_get}
use Rattle.std.proofs.lemmas.List.{length-append}
use Rattle.std.proofs.lemmas.Option.{slice_get-get_or}
use Rattle.can_plan.specs.declared.message.Message.{Message}
use Rattle.can_plan_text.specs.declared.verdict.Verdict.{Verdict}
use Rattle.can_plan_text.specs.Plans.{messages_of}
use Rattle.can_plan_text.proofs.LatestFrames.{details-more, judged-here}
use Rattle.can_plan_text.proofs.latest.details_of.Goals as goal

pub latest_of-requires-clause-judged : goal.latest_of-requires-clause-judged
latest_of-requires-clause-judged c =
    let verdicts = c.args.analysis.now.verdicts.items in
    let v : Verdict = c.verdict-item.result in
    let within : c.loop-place.place < length verdicts = omega arith in
    let is : v ≡ get_or verdicts c.loop-place.place v = search rules in
    c.requires.each c.loop-place.place v (slice_get-get_or verdicts c.loop-place.place v within ∙ sym (ap Some is))

pub latest_of-requires-clause-here : goal.latest_of-requires-clause-here
latest_of-requires-clause-here c =
    let verdicts = c.args.analysis.now.verdicts.items in
    let v : Verdict = c.verdict-item.result in
    let within : c.loop-place.place < length verdicts = omega arith in
    let is : v ≡ get_or verdicts c.loop-place.place v = search rules in
    let all : c.deref-in-loop-place.result.now ≡ messages_of c.args.plan.now.messages.items = search rules in
    ap (λ (l : List Message). slice_get l c.loop-place.place) all
    ∙ judged-here c.args.plan.now verdicts c.requires c.loop-place.place v (slice_get-get_or verdicts c.loop-place.place v within ∙ sym (ap Some is))

pub loop-place-preserved : goal.loop-place-preserved
loop-place-preserved c =
    let verdicts = c.args.analysis.now.verdicts.items in
    let v : Verdict = c.verdict-item.result in
    let within : c.loop-place.place < length verdicts = omega arith in
    let is : v ≡ get_or verdicts c.loop-place.place v = search rules in
    let at : slice_get verdicts c.loop-place.place ≡ Some v = slice_get-get_or verdicts c.loop-place.place v within ∙ sym (ap Some is) in (
      ap length c.in_ok-push.ensures.items ∙ length-append c.loop-place.details.items (_ ∷ []) ∙ ap (λ k. k + 1) c.loop-place.invariant.0,
      rw c.in_ok-push.ensures.items
          (details-more c.args.plan.now verdicts c.loop-place.details.items c.loop-place.place v _ c.loop-place.invariant.0 at
          (record { verdict = refl; place = refl; latest = c.latest_of.ensures }) c.loop-place.invariant.1),
    )
