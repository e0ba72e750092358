-- The latest frame of a busy period, and that its parts make the bound.
use Rattle.std.proofs.Common.{◌≡◌, ◌≢◌, ℕ, ◌+◌, ◌-◌, ◌*◌, ◌<◌, ◌≤◌, subst, inl, inr, arith}
use Rattle.std.specs.Prelude.{MatchOption, IfSome, Option, Some, None}
use Rattle.std.proofs.lemmas.Bool.{cases_lt}
use Rattle.std.proofs.lemmas.Nat.{le-div}
use Rattle.can_plan.specs.declared.latest.Latest.{Latest}
use Rattle.can_plan.specs.declared.message.HitRate.{HitRate}
use Rattle.can_plan.specs.Analysis.{IsBound, IsLeast, IsLeastBound, Ranking, arrivals, blocking, delayed, widest}
use Rattle.can_plan.specs.Latest.{HasDelay, IsLatest, end_of, sum_of_parts}
use Rattle.can_plan.specs.Messages.{ArePeriodic, most_hits}
use Rattle.can_plan.specs.Steps.{EndsElse, IsEnough, NoneEnds}
use Rattle.can_plan.proofs.Bounds.{enough-from, enough-to}
use Rattle.can_plan.proofs.Growth.{arrivals-grow, demand-grows}

module _ (rate : HitRate) (limit : ℕ) (r : Ranking) (block wide : ℕ) (is_block : block ≡ blocking r) (is_wide : wide ≡ widest r) where
  abbrev Enough : ℕ → ℕ → Type 0
  Enough q n = IsEnough (most_hits rate) block wide r.message r.higher q n

  to : (q n : ℕ) → Enough q n → delayed (most_hits rate) r q n ≤ n
  to q n h = enough-to rate limit r block wide is_block is_wide q n h

  from : (q n : ℕ) → delayed (most_hits rate) r q n ≤ n → Enough q n
  from q n h = enough-from rate limit r block wide is_block is_wide q n h

  pub delay-to : (q d : ℕ) → IsLeast (Enough q) d → HasDelay (most_hits rate) r q d
  delay-to q d least = record { is = to q d least.is; below = λ n h. least.below n (from q n h) }

  pub first-to : (bound number : ℕ) → ((k : ℕ) → k < number → EndsElse (most_hits rate) block wide r.message r.higher limit bound k) →
      (q d : ℕ) → q < number → HasDelay (most_hits rate) r q d → end_of r.message q d ≢ bound
  first-to bound number each q d less has =
      let one = each q less in
      let above = one.2.below d (from q d has.is) in
      let below = has.below one.0 (to q one.0 one.2.is) in
      let same : one.0 ≡ d = omega (arith, above, below) in
      subst (λ n. end_of r.message q n ≢ bound) same one.3

  -- one that ends at another time than the bound says ends sooner
  sooner : (bound q : ℕ) → EndsElse (most_hits rate) block wide r.message r.higher limit bound q →
      (d : ℕ) × (d ≤ limit) × (delayed (most_hits rate) r q d ≤ d) × (r.message.jitter + d + r.message.longest ≤ bound + 3 + q * r.message.period) →
      (d : ℕ) × (d ≤ limit) × (delayed (most_hits rate) r q d ≤ d) × (end_of r.message q d < bound)
  sooner bound q else within =
      let least = else.2.below within.0 (from q within.0 within.2) in
      let enough = within.3 in (
        else.0,
        else.1,
        to q else.0 else.2.is,
        elim (cases_lt (end_of r.message q else.0) bound) [
          | inl less ↦ less
          | inr not ↦ absurd (else.3 (omega (arith, not, least, enough)))
        ],
      )

  -- if the first frame has no delay up to the limit, there is no bound
  pub none-first : 0 < r.message.period → ((n : ℕ) → Enough 0 n → limit < n) → (bound : ℕ) → IsBound (most_hits rate) limit r bound → ⊥
  none-first some past bound b =
      let h = b.some in
      let few = le-div 1 (b.long + r.message.jitter + r.message.period - 1) r.message.period some (omega (arith, h)) in
      let one = b.each 0 (omega (arith, few)) in
      let more = past one.0 (from 0 one.0 one.2.delays) in
      let within = one.1 in absurd (omega (arith, more, within))

  pub none-to : 0 < r.message.period → (bound : ℕ) → NoneEnds (most_hits rate) block wide r.message r.higher limit bound → IsLeastBound (most_hits rate) limit r bound → ⊥
  none-to some bound none told =
      let b = told.is in
      let all = arrivals-grow r.message b.long limit some b.limited in
      let sooner-one : (q : ℕ) → q < arrivals r.message b.long → (d : ℕ) × (d ≤ limit) × (delayed (most_hits rate) r q d ≤ d) × (end_of r.message q d < bound) = λ q few.
      let one = b.each q few in
      elim (cases_lt q none.0) [
        | inl before ↦ sooner bound q (none.1 q before) (one.0, one.1, one.2.delays, one.2.enough)
        | inr behind ↦
            let there = b.each none.0 (omega (arith, behind, few)) in
            let past = none.2 there.0 (omega (arith, behind, few, all)) (from none.0 there.0 there.2.delays) in
            let h = there.1 in absurd (omega (arith, past, h))
      ] in
      let zero = sooner-one 0 (let h = b.some in le-div 1 (b.long + r.message.jitter + r.message.period - 1) r.message.period some (omega (arith, h))) in
      let positive = zero.3 in
      let lesser : IsBound (most_hits rate) limit r (bound - 1) = record {
        long = b.long;
        some = b.some;
        busy = b.busy;
        limited = b.limited;
        each = λ q few. let one = sooner-one q few in let less = one.3 in (one.0, one.1, record { delays = one.2; enough = omega (arith, less) });
      } in
      let again = told.least (bound - 1) lesser in
      absurd (omega (arith, again, positive))

-- there is one least bound
pub one-bound : (most : ℕ → ℕ) (limit : ℕ) (r : Ranking) (a b : ℕ) → IsLeastBound most limit r a → IsLeastBound most limit r b → a ≡ b
one-bound most limit r a b first second = omega (arith, first.least b second.is, second.least a first.is)

-- a least delay is all that keeps the bus before it
kept : (rate : HitRate) (r : Ranking) → ArePeriodic r.higher → (q d : ℕ) → HasDelay (most_hits rate) r q d → d ≡ delayed (most_hits rate) r q d
kept rate r periodic q d has =
    let within = has.is in
    elim (cases_lt (delayed (most_hits rate) r q d) d) [
      | inl less ↦
          let grows = demand-grows rate (blocking r + q * r.message.longest) (widest r) r.higher (d - 1 + 1) (d + 1) periodic (omega arith) in
          let enough : delayed (most_hits rate) r q (d - 1) ≤ d - 1 = omega (arith, grows, less) in
          let h = has.below (d - 1) enough in absurd (omega (arith, h, less))
      | inr all ↦ omega (arith, all, within)
    ]

pub sum-of : (rate : HitRate) (r : Ranking) → ArePeriodic r.higher → (bound : ℕ) (latest : Latest) → IsLatest (most_hits rate) r bound latest → bound ≡ sum_of_parts r latest
sum-of rate r periodic bound latest is =
    let all = kept rate r periodic latest.number latest.delay is.delay in
    omega (arith, all, is.end, is.told, is.earlier, is.later, is.cost)

pub some-sum : (rate : HitRate) (limit : ℕ) (r : Ranking) → ArePeriodic r.higher → (bound : ℕ) (result : Option Latest) →
    MatchOption result (IsLeastBound (most_hits rate) limit r bound → ⊥) (λ latest. IsLatest (most_hits rate) r bound latest) → IfSome result (λ latest. bound ≡ sum_of_parts r latest)
some-sum rate limit r periodic bound None told = tt
some-sum rate limit r periodic bound (Some latest) told = sum-of rate r periodic bound latest told
