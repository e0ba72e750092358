use Rattle.std.proofs.Common.{List, None, refl, sym, subst}
use Rattle.can_plan.specs.declared.message.Message.{Message}
use Rattle.can_plan.specs.Messages.{ArePeriodic}
use Rattle.can_plan_text.proofs.Kept.{periodic}
use Rattle.can_plan_text.proofs.LatestFrames.{latest-none, latest-told}
use Rattle.can_plan_text.proofs.latest.latest_of.Goals as goal

pub returns-in-Some : goal.returns-in-Some
returns-in-Some c =
    let v = c.args.verdict.now in
    let plan = c.args.plan.now in
    let are = subst (λ (m : List Message). ArePeriodic m) (sym c.requires.all) (periodic plan.messages.items) in
    let told = c.latest_frame.ensures in
    latest-told plan c.args.place v c.args.messages.now c.requires.all c.hit_rate.result c.hit_rate.ensures c.in-Some.bound c.requires.judged c.in-Some.is
    c.latest_frame.result (told.latest v.planned.message c.requires.here are, told.parts v.planned.message c.requires.here are)

pub returns-in-None : goal.returns-in-None
returns-in-None c = latest-none c.args.plan.now c.args.place c.args.verdict.now c.in-None.is None refl
