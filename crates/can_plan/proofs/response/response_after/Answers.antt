use Rattle.std.proofs.Common.{◌≡◌, ℕ, ◌-◌, ◌≤◌, true, false, Some, take, ap, arith, subst, sym, ◌∙◌}
use Rattle.std.specs.Prelude.{MatchOption, max, slice_get}
use Rattle.std.proofs.lemmas.Option.{slice_get-get_or, slice_get_within}
use Rattle.can_plan.specs.declared.message.Message.{Message}
use Rattle.can_plan.specs.Messages.{most_hits}
use Rattle.can_plan.specs.Analysis.{Ranking, IsBound, IsBusyPeriod, IsLeastBound, blocking, demand, ranking_at, widest}
use Rattle.can_plan.proofs.Carried.{busy-next, free-told, ranking-here}
use Rattle.can_plan.proofs.Periods.{periodic-from, periodic-take, periodic-to}
use Rattle.can_plan.proofs.Places.{some-holds}
use Rattle.can_plan.proofs.response.response_after.Goals as goal
use Rattle.can_plan.proofs.response.response_after.Goals.{then-place-messages-via-then-place-messages, then-place-messages-via-else-place-messages+then-not-are_periodic}

pub ranked_response-response-requires-clause-periodic : goal.ranked_response-response-requires-clause-periodic
ranked_response-response-requires-clause-periodic c =
    periodic-take c.args.place c.args.messages.now (periodic-from c.args.messages.now (sym c.are_periodic.ensures ∙ c.if-not-are_periodic.false))

pub ranked_response-response-requires-clause-begun : goal.ranked_response-response-requires-clause-begun
ranked_response-response-requires-clause-begun c = λ n some h.
    let item : Message = c.index-messages-place.result in
    let at : slice_get c.args.messages.now c.args.place ≡ Some item = slice_get-get_or c.args.messages.now c.args.place item c.if-place-messages.false ∙ sym (ap Some c.index-messages-place.is) in
    free-told c.args.rate.now c.args.messages.now c.args.place c.args.before item at c.requires n some
    (subst (λ r. demand (most_hits c.args.rate.now) (max (item.longest - 1) (blocking r)) (widest r) (take c.args.place c.args.messages.now) n ≤ n) (ranking-here c.args.messages.now c.args.place item) h)

pub returns-then-place-messages-clause-least : goal.returns-then-place-messages-clause-least
returns-then-place-messages-clause-least c = λ message at periodic other b.
    elim c.then-place-messages.branch [
      | then-place-messages-via-then-place-messages w ↦ absurd (omega (arith, w.if-place-messages.true, slice_get_within c.args.messages.now c.args.place message at))
      | then-place-messages-via-else-place-messages+then-not-are_periodic w ↦
          absurd (let h : true ≡ false = sym (periodic-to c.args.messages.now periodic) ∙ sym w.are_periodic.ensures ∙ w.if-not-are_periodic.true in cc)
    ]

pub returns-clause-least : goal.returns-clause-least
returns-clause-least c = λ message at periodic.
    let item : Message = c.index-messages-place.result in
    let there : slice_get c.args.messages.now c.args.place ≡ Some item = slice_get-get_or c.args.messages.now c.args.place item c.if-place-messages.false ∙ sym (ap Some c.index-messages-place.is) in
    let same : item ≡ message = (let e : Some item ≡ Some message = sym there ∙ at in cc) in
    let Answers : Ranking → Type 0 = λ r.
    MatchOption c.ranked_response-response.result.bound ((other : ℕ) → IsBound (most_hits c.args.rate.now) c.args.limit r other → ⊥) (λ b. IsLeastBound (most_hits c.args.rate.now) c.args.limit r b) in
    subst (λ m. Answers (ranking_at c.args.messages.now c.args.place m)) same (subst Answers (ranking-here c.args.messages.now c.args.place item) c.ranked_response-response.ensures.bound)

pub returns-then-place-messages-clause-busy : goal.returns-then-place-messages-clause-busy
returns-then-place-messages-clause-busy c = λ message at periodic n free.
    elim c.then-place-messages.branch [
      | then-place-messages-via-then-place-messages w ↦ absurd (omega (arith, w.if-place-messages.true, slice_get_within c.args.messages.now c.args.place message at))
      | then-place-messages-via-else-place-messages+then-not-are_periodic w ↦
          absurd (let h : true ≡ false = sym (periodic-to c.args.messages.now periodic) ∙ sym w.are_periodic.ensures ∙ w.if-not-are_periodic.true in cc)
    ]

pub returns-clause-busy : goal.returns-clause-busy
returns-clause-busy c = λ message at periodic.
    let item : Message = c.index-messages-place.result in
    let there : slice_get c.args.messages.now c.args.place ≡ Some item = slice_get-get_or c.args.messages.now c.args.place item c.if-place-messages.false ∙ sym (ap Some c.index-messages-place.is) in
    let same : item ≡ message = (let e : Some item ≡ Some message = sym there ∙ at in cc) in
    let Answers : Ranking → Type 0 = λ r. IsBusyPeriod (most_hits c.args.rate.now) c.args.limit r c.ranked_response-response.result.busy in
    subst (λ m. Answers (ranking_at c.args.messages.now c.args.place m)) same (subst Answers (ranking-here c.args.messages.now c.args.place item) c.ranked_response-response.ensures.busy)

pub returns-clause-next : goal.returns-clause-next
returns-clause-next c =
    let item : Message = c.index-messages-place.result in
    let there : slice_get c.args.messages.now c.args.place ≡ Some item = slice_get-get_or c.args.messages.now c.args.place item c.if-place-messages.false ∙ sym (ap Some c.index-messages-place.is) in
    let busy : IsBusyPeriod (most_hits c.args.rate.now) c.args.limit (ranking_at c.args.messages.now c.args.place item) c.ranked_response-response.result.busy =
    subst (λ r. IsBusyPeriod (most_hits c.args.rate.now) c.args.limit r c.ranked_response-response.result.busy) (ranking-here c.args.messages.now c.args.place item) c.ranked_response-response.ensures.busy in
    busy-next c.args.rate.now c.args.limit c.args.messages.now c.args.place item there c.ranked_response-response.result.busy c.least_busy.result busy c.least_busy.ensures

pub returns-clause-holds : goal.returns-clause-holds
returns-clause-holds c = λ message at is.
    some-holds (most_hits c.args.rate.now) c.args.limit c.args.messages.now c.args.place message at is c.ranked_response-response.result.bound (returns-clause-least c message at is.periodic)
