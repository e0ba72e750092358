use Rattle.std.proofs.Common.{◌≡◌, ℕ, ◌<◌, false, true, get_or, length, ap, refl, sym, subst, ◌∙◌, inl, inr, arith}
use Rattle.std.proofs.lemmas.Bool.{cases_lt}
use Rattle.std.proofs.lemmas.Option.{slice_get-get_or, slice_get_within}
use Rattle.can_plan.specs.Margins.{MeetsDeadline, misses_deadline}
use Rattle.can_plan.proofs.Margins.{first-here, met-here, unbounded}
use Rattle.can_plan.proofs.margin.first_late_from.Goals as goal

pub loop-place-init : goal.loop-place-init
loop-place-init c = (λ periodic k less. c.requires k less, (record { first = λ e. refl; next = λ k m n e at some h. omega arith }, λ none. refl))

pub returns-then-misses_deadline-clause-first : goal.returns-then-misses_deadline-clause-first
returns-then-misses_deadline-clause-first c = λ periodic.
    let bound = c.response_after-next.result.0.bound in
    let deadline : ℕ = get_or c.args.deadlines.now c.loop-place.place 0 in
    let due : c.loop-place.place < length c.args.deadlines.now = omega (arith, c.loop-place-test.true, c.min-place-end.ensures) in
    let here : c.loop-place.place < length c.args.messages.now = omega (arith, c.loop-place-test.true, c.min-place-end.ensures) in
    let above : misses_deadline deadline bound ≡ true = ap (λ d. misses_deadline d bound) (sym c.from.ensures) ∙ sym c.misses_deadline.ensures ∙ c.if-misses_deadline.true in
    first-here c.args.rate.now c.args.limit c.args.messages.now c.args.deadlines.now c.loop-place.place bound c.response_after-next.ensures.least deadline
    (slice_get-get_or c.args.deadlines.now c.loop-place.place 0 due) here above periodic (c.loop-place.invariant.0 periodic)

pub returns-then-misses_deadline-clause-aperiodic : goal.returns-then-misses_deadline-clause-aperiodic
returns-then-misses_deadline-clause-aperiodic c = λ none some.
    let at = c.loop-place.invariant.1.1 none in (at, omega (arith, at, c.loop-place-test.true, c.min-place-end.ensures))

pub loop-place-preserved : goal.loop-place-preserved
loop-place-preserved c = (
  λ periodic k less. elim (cases_lt k c.loop-place.place) [
    | inl before ↦ c.loop-place.invariant.0 periodic k before
    | inr not ↦
        let same : c.loop-place.place ≡ k = omega (arith, less, not) in
        let bound = c.response_after-next.result.0.bound in
        let deadline : ℕ = get_or c.args.deadlines.now c.loop-place.place 0 in
        let due : c.loop-place.place < length c.args.deadlines.now = omega (arith, c.loop-place-test.true, c.min-place-end.ensures) in
        let within : misses_deadline deadline bound ≡ false = ap (λ d. misses_deadline d bound) (sym c.from.ensures) ∙ sym c.misses_deadline.ensures ∙ c.if-misses_deadline.false in
        subst (λ n. MeetsDeadline c.args.rate.now c.args.limit c.args.messages.now c.args.deadlines.now n) same
        (met-here c.args.rate.now c.args.limit c.args.messages.now c.args.deadlines.now c.loop-place.place bound c.response_after-next.ensures.least deadline
        (slice_get-get_or c.args.deadlines.now c.loop-place.place 0 due) within periodic)
  ],
  (
    c.response_after-next.ensures.next,
    λ none.
        let deadline : ℕ = get_or c.args.deadlines.now c.loop-place.place 0 in
        let over : misses_deadline deadline c.response_after-next.result.0.bound ≡ true = unbounded deadline c.response_after-next.result.0.bound (c.response_after-next.ensures.aperiodic none).0 in
        let within : misses_deadline deadline c.response_after-next.result.0.bound ≡ false =
        ap (λ d. misses_deadline d c.response_after-next.result.0.bound) (sym c.from.ensures) ∙ sym c.misses_deadline.ensures ∙ c.if-misses_deadline.false in
        absurd (let h : true ≡ false = sym over ∙ within in cc),
  ),
)

pub returns-clause-aperiodic : goal.returns-clause-aperiodic
returns-clause-aperiodic c = λ none some. omega (arith, some, c.loop-place.invariant.1.1 none, c.loop-place-test.false, c.min-place-end.ensures)

pub returns-clause-first : goal.returns-clause-first
returns-clause-first c = λ periodic place m deadline here due.
    let first = slice_get_within c.args.messages.now place m here in
    let second = slice_get_within c.args.deadlines.now place deadline due in
    c.loop-place.invariant.0 periodic place (omega (arith, first, second, c.loop-place-test.false, c.min-place-end.ensures)) m deadline here due
