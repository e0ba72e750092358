use Rattle.std.proofs.Common.{ℕ, List, MatchOption, Option, subst, sym}
use Rattle.std.specs.Prelude.{IfOk}
use Rattle.can_plan.specs.declared.margin.Margin.{Margin}
use Rattle.can_plan.specs.declared.message.HitRate.{HitRate}
use Rattle.can_plan.specs.declared.message.Message.{Message}
use Rattle.can_plan.specs.Margins.{IsMargin, MeetDeadlines}
use Rattle.can_plan.specs.Messages.{ArePeriodic}
use Rattle.can_plan_text.specs.Answers.{hit_rate_of, limit}
use Rattle.can_plan_text.specs.Details.{deadlines_of}
use Rattle.can_plan_text.proofs.Kept.{periodic}
use Rattle.can_plan_text.proofs.left.margin_in.Goals as goal

pub returns : goal.returns
returns c =
    let plan = c.args.plan.now in
    let Told : List Message → List ℕ → HitRate → Type 0 = λ messages deadlines rate.
    IfOk c.margin_of.result (λ (margin : Option Margin). MatchOption margin (MeetDeadlines rate limit messages deadlines → ⊥) (IsMargin c.args.strain rate limit messages deadlines)) in
    let are = subst (λ (m : List Message). ArePeriodic m) (sym c.requires.all) (periodic plan.messages.items) in
    subst (λ (m : List Message). Told m (deadlines_of plan.messages.items) (hit_rate_of plan.errors)) c.requires.all
    (subst (λ (d : List ℕ). Told c.args.messages.now d (hit_rate_of plan.errors)) c.requires.due
    (subst (λ (r : HitRate). Told c.args.messages.now c.args.deadlines.now r) c.hit_rate.ensures (c.margin_of.ensures.margin are)))
