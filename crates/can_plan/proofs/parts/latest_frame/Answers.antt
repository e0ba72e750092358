use Rattle.std.proofs.Common.{◌≡◌, true, false, Some, ap, arith, subst, sym, ◌∙◌}
use Rattle.std.specs.Prelude.{IfSome, MatchOption, slice_get}
use Rattle.std.proofs.lemmas.Option.{slice_get-get_or, slice_get_within}
use Rattle.can_plan.specs.declared.message.Message.{Message}
use Rattle.can_plan.specs.Messages.{most_hits}
use Rattle.can_plan.specs.Analysis.{IsLeastBound, Ranking, ranking_at}
use Rattle.can_plan.specs.Latest.{IsLatest}
use Rattle.can_plan.proofs.Carried.{ranking-here}
use Rattle.can_plan.proofs.LatestFrames.{some-sum}
use Rattle.can_plan.proofs.Periods.{periodic-from, periodic-take, periodic-to}
use Rattle.can_plan.proofs.parts.latest_frame.Goals as goal
use Rattle.can_plan.proofs.parts.latest_frame.Goals.{then-place-messages-via-then-place-messages, then-place-messages-via-else-place-messages+then-not-are_periodic}

pub ranked_latest-requires-clause-periodic : goal.ranked_latest-requires-clause-periodic
ranked_latest-requires-clause-periodic c =
    periodic-take c.args.place c.args.messages.now (periodic-from c.args.messages.now (sym c.are_periodic.ensures ∙ c.if-not-are_periodic.false))

pub returns-then-place-messages-clause-latest : goal.returns-then-place-messages-clause-latest
returns-then-place-messages-clause-latest c = λ message at periodic told.
    elim c.then-place-messages.branch [
      | then-place-messages-via-then-place-messages w ↦ absurd (omega (arith, w.if-place-messages.true, slice_get_within c.args.messages.now c.args.place message at))
      | then-place-messages-via-else-place-messages+then-not-are_periodic w ↦
          absurd (let h : true ≡ false = sym (periodic-to c.args.messages.now periodic) ∙ sym w.are_periodic.ensures ∙ w.if-not-are_periodic.true in cc)
    ]

pub returns-clause-latest : goal.returns-clause-latest
returns-clause-latest c = λ message at periodic.
    let item : Message = c.index-messages-place.result in
    let there : slice_get c.args.messages.now c.args.place ≡ Some item = slice_get-get_or c.args.messages.now c.args.place item c.if-place-messages.false ∙ sym (ap Some c.index-messages-place.is) in
    let same : item ≡ message = (let e : Some item ≡ Some message = sym there ∙ at in cc) in
    let Answers : Ranking → Type 0 = λ r.
    MatchOption c.ranked_latest.result (IsLeastBound (most_hits c.args.rate.now) c.args.limit r c.args.bound → ⊥) (λ latest. IsLatest (most_hits c.args.rate.now) r c.args.bound latest) in
    subst (λ m. Answers (ranking_at c.args.messages.now c.args.place m)) same (subst Answers (ranking-here c.args.messages.now c.args.place item) c.ranked_latest.ensures.latest)

pub returns-clause-least : goal.returns-clause-least
returns-clause-least c = λ message at periodic.
    let item : Message = c.index-messages-place.result in
    let there : slice_get c.args.messages.now c.args.place ≡ Some item = slice_get-get_or c.args.messages.now c.args.place item c.if-place-messages.false ∙ sym (ap Some c.index-messages-place.is) in
    let same : item ≡ message = (let e : Some item ≡ Some message = sym there ∙ at in cc) in
    let Answers : Ranking → Type 0 = λ r. IfSome c.ranked_latest.result (λ latest. IsLeastBound (most_hits c.args.rate.now) c.args.limit r c.args.bound) in
    subst (λ m. Answers (ranking_at c.args.messages.now c.args.place m)) same (subst Answers (ranking-here c.args.messages.now c.args.place item) c.ranked_latest.ensures.least)

pub returns-clause-parts : goal.returns-clause-parts
returns-clause-parts c = λ message at periodic.
    some-sum c.args.rate.now c.args.limit (ranking_at c.args.messages.now c.args.place message) (periodic-take c.args.place c.args.messages.now periodic) c.args.bound c.ranked_latest.result
    (returns-clause-latest c message at periodic)
