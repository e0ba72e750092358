use Rattle.std.proofs.Common.{◌≡◌, List, MatchOption, map, sym, subst, ◌∙◌}
use Rattle.can_plan.specs.declared.margin.Strain.{Strain}
use Rattle.can_plan.specs.declared.margin.Strain.TheVariants.{ShorterPeriods}
use Rattle.can_plan.specs.declared.message.Message.{Message}
use Rattle.can_plan.specs.Margins.{IsFirstLate, IsFirstUnder, MeetDeadlines, MeetUnder, MeetsDeadline, MeetsUnder, shorter}
use Rattle.can_plan.specs.Messages.{ArePeriodic}
use Rattle.can_plan.proofs.Margins.{periodic-under}
use Rattle.can_plan.proofs.margin.first_under.Goals as goal

pub returns-in_ok-shorter-in-ShorterPeriods : goal.returns-in_ok-shorter-in-ShorterPeriods
returns-in_ok-shorter-in-ShorterPeriods c =
    let messages = c.args.messages.now in
    let all : c.deref.result.now ≡ map (shorter c.args.more) messages = c.deref.ensures.value ∙ c.in_ok-shorter-in-ShorterPeriods.ensures in
    let Told : List Message → Type 0 = λ ms.
    MatchOption c.first_late_from.result (MeetDeadlines c.args.rate.now c.args.limit ms c.args.deadlines.now) (IsFirstLate c.args.rate.now c.args.limit ms c.args.deadlines.now) in
    let told = subst (λ (ms : List Message). ArePeriodic ms → Told ms) all c.first_late_from.ensures.first in
    subst (λ (s : Strain). MatchOption c.first_late_from.result (MeetUnder s c.args.rate.now c.args.limit messages c.args.deadlines.now c.args.more)
    (IsFirstUnder s c.args.rate.now c.args.limit messages c.args.deadlines.now c.args.more)) (sym c.in-ShorterPeriods.is)
    (told (periodic-under ShorterPeriods c.args.more messages c.requires.periodic))

pub first_late_from-requires : goal.first_late_from-requires
first_late_from-requires c = λ k few.
    let messages = c.args.messages.now in
    let all : c.deref.result.now ≡ map (shorter c.args.more) messages = c.deref.ensures.value ∙ c.in_ok-shorter-in-ShorterPeriods.ensures in
    subst (λ (ms : List Message). MeetsDeadline c.args.rate.now c.args.limit ms c.args.deadlines.now k) (sym all)
    (subst (λ (s : Strain). MeetsUnder s c.args.rate.now c.args.limit messages c.args.deadlines.now c.args.more k) c.in-ShorterPeriods.is (c.requires.met k few))

pub first_late_from-requires-in-MoreHits : goal.first_late_from-requires-in-MoreHits
first_late_from-requires-in-MoreHits c = λ k few.
    subst (λ (s : Strain). MeetsUnder s c.args.rate.now c.args.limit c.args.messages.now c.args.deadlines.now c.args.more k) c.in-MoreHits.is (c.requires.met k few)
