use Rattle.std.proofs.Common.{◌≡◌, ℕ, ◌<◌, false, List, length, get_or, Option, MatchOption, ap, subst, sym, arith, rules, ◌∙◌}
use Rattle.std.proofs.lemmas.Option.{slice_get_within}
use Rattle.can_plan.specs.declared.message.Message.{Message}
use Rattle.can_plan.specs.Analysis.{IsBound, IsLeastBound, ranking_at}
use Rattle.can_plan.specs.Margins.{misses_deadline}
use Rattle.can_plan.specs.Messages.{ArePeriodic, most_hits}
use Rattle.can_plan_text.specs.declared.plan.Planned.{Planned}
use Rattle.can_plan_text.specs.Answers.{limit}
use Rattle.can_plan_text.proofs.Kept.{holding-here, kept-by, least-here, message-here, periodic, verdicts-more}
use Rattle.can_plan_text.proofs.analysis.judge_each.Goals as goal

pub loop-place-preserved : goal.loop-place-preserved
loop-place-preserved c =
    let said = c.judge.ensures in
    let planned : Planned = c.planned-item.result in
    let within : c.loop-place.place < length c.args.plan.now.messages.items = omega arith in
    let is : planned ≡ get_or c.args.plan.now.messages.items c.loop-place.place planned = search rules in
    let here = message-here c.args.plan.now.messages.items c.loop-place.place planned c.args.messages.now c.requires within is in
    let answer = c.next_response-response in
    let now = c.loop-place.responses in
    let kept = c.loop-place.invariant.1 in
    let bound : Option ℕ = answer.result.bound in
    let are = subst (λ (m : List Message). ArePeriodic m) (sym c.requires) (periodic c.args.plan.now.messages.items) in
    let least = least-here bound now.messages.now c.args.messages.now now.rate now.limit limit now.place c.loop-place.place kept.0 kept.2 kept.3 answer.ensures.least planned.message here are in
    let holds = holding-here bound now.messages.now c.args.messages.now now.rate now.limit limit now.place c.loop-place.place kept.0 kept.2 kept.3 answer.ensures.holds planned.message here in
    let same : MatchOption c.judge.result.bound
    ((other : ℕ) → IsBound (most_hits now.rate) limit (ranking_at c.args.messages.now c.loop-place.place planned.message) other → ⊥)
    (λ b. IsLeastBound (most_hits now.rate) limit (ranking_at c.args.messages.now c.loop-place.place planned.message) b) =
    subst (λ (b : Option ℕ). MatchOption b
    ((other : ℕ) → IsBound (most_hits now.rate) limit (ranking_at c.args.messages.now c.loop-place.place planned.message) other → ⊥)
    (λ b. IsLeastBound (most_hits now.rate) limit (ranking_at c.args.messages.now c.loop-place.place planned.message) b)) (sym said.bound) least in
    let more = verdicts-more c.args.plan.now c.loop-place.place within planned is
    c.args.messages.now c.requires now.rate kept.1 c.judge.result said.planned (
      said.block,
      same,
      λ set ok.
          let late : misses_deadline planned.deadline bound ≡ false =
          ap (λ (q : Planned). misses_deadline q.deadline bound) (sym said.planned) ∙ ap (misses_deadline c.judge.result.planned.deadline) (sym said.bound) ∙ ok in
          kept-by (most_hits now.rate) c.args.messages.now planned.message planned.deadline bound
          (holds set) late,
    )
    c.loop-place.verdicts.items c.loop-place.invariant.0 in
    let there : now.place < length now.messages.now = omega (arith, ap length kept.0, slice_get_within c.args.messages.now c.loop-place.place planned.message here, kept.3) in
    (rw c.in_ok-push.ensures.items more, (answer.ensures.messages ∙ kept.0, answer.ensures.rate ∙ kept.1, answer.ensures.limit ∙ kept.2, omega (arith, answer.ensures.next there, kept.3)))
