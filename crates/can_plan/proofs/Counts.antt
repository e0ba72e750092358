-- How many releases of each message a list has, how long they keep the bus, and how many hits fall in a stretch of bit
-- times.
use Rattle.std.proofs.Common.{◌≡◌, ℕ, ◌+◌, ◌-◌, ◌*◌, ◌<◌, ◌≤◌, Bool, true, false, cond, Some, List, [], ◌∷◌, length, refl, sym, ◌∙◌, ap, subst, inl, inr, arith}
use Rattle.std.specs.Prelude.{max, fold, map, nat_le, nat_lt, ◌&&◌}
use Rattle.std.specs.List.{sum_by, count_by}
use Rattle.std.proofs.lemmas.Bool.{cases_Bool, le-leb, lt-ltb}
use Rattle.std.proofs.lemmas.Nat.{le-div, mul-le}
use Rattle.std.proofs.lemmas.List.Sums.{sum_by-cons}
use Rattle.can_frame.specs.Arbitration.{arbitration_field}
use Rattle.can_bus.specs.CourseWaiting.{busy_times}
use Rattle.can_bus.specs.Quiet.{busy_time, span}
use Rattle.can_bus.specs.Timed.{frames_of}
use Rattle.can_bus.proofs.Members.{stands-none, stands-here, stands-later, stands-cases}
use Rattle.can_plan.specs.declared.message.Message.{Message}
use Rattle.can_plan.specs.Messages.{IsIn, Release, IsOf, offer_of, within_stretch}
use Rattle.can_plan.specs.Analysis.{greatest, arrivals, load}
use Rattle.can_plan.proofs.FieldTests.{has_field, same_levels-is, same_levels-from}

module _ (m : Message) where
  abbrev pub count : List Release → ℕ
  count s = count_by (λ r. has_field m.field r.frame) s

  pub of-has : (r : Release) → IsOf m r → has_field m.field r.frame ≡ true
  of-has r e = same_levels-from m.field (arbitration_field r.frame) (sym e)

  pub has-of : (r : Release) → has_field m.field r.frame ≡ true → IsOf m r
  has-of r e = sym (same_levels-is m.field (arbitration_field r.frame) e)

  pub count-yes : (r : Release) (s : List Release) → has_field m.field r.frame ≡ true → count (r ∷ s) ≡ 1 + count s
  count-yes r s e = sum_by-cons (λ (x : Release). cond (has_field m.field x.frame) 1 0) r s ∙ ap (λ b. cond b 1 0 + count s) e

  pub count-no : (r : Release) (s : List Release) → has_field m.field r.frame ≡ false → count (r ∷ s) ≡ count s
  count-no r s e = sum_by-cons (λ (x : Release). cond (has_field m.field x.frame) 1 0) r s ∙ ap (λ b. cond b 1 0 + count s) e ∙ (let none : 0 + count s ≡ count s = omega arith in none)

  pub count-more : (r : Release) (s : List Release) → count s ≤ count (r ∷ s)
  count-more r s = elim (cases_Bool (has_field m.field r.frame)) [ inl e ↦ omega (arith, count-yes r s e) | inr e ↦ omega (arith, count-no r s e) ]

  -- the newest first, each a period after the one before
  abbrev pub Spaced : List Release → Type 0
  Spaced [] = Unit {0}
  Spaced (x ∷ s) = ((y : Release) → IsIn s y → IsOf m y → IsOf m x → y.released + m.period ≤ x.released) × Spaced s

  abbrev pub ReleasedFrom : ℕ → List Release → Type 0
  ReleasedFrom from s = (y : Release) → IsIn s y → IsOf m y → from ≤ y.released + m.jitter

  -- this many before the newest
  pub count-span : (from : ℕ) (x : Release) (s : List Release) → Spaced (x ∷ s) → ReleasedFrom from (x ∷ s) → IsOf m x → count s * m.period + from ≤ x.released + m.jitter
  count-span from x [] spaced began of = let first = began x (stands-here x []) of in omega arith
  count-span from x (y ∷ s) spaced began of =
      elim (cases_Bool (has_field m.field y.frame)) [
        | inl e ↦
            let is = has-of y e in
            let before = count-span from y s spaced.1 (λ z there. began z (stands-later x (y ∷ s) z there)) is in
            let step = spaced.0 y (stands-here y s) is of in
            let one = count-yes y s e in
            let product : count (y ∷ s) * m.period ≡ (1 + count s) * m.period = ap (λ n. n * m.period) one in
            omega arith
        | inr e ↦
            let one = count-no y s e in
            let product : count (y ∷ s) * m.period ≡ count s * m.period = ap (λ n. n * m.period) one in
            let before = count-span from x s (λ z there. spaced.0 z (stands-later y s z there), spaced.1.1)
            (λ z there. elim (stands-cases x s z there) [ inl h ↦ began z (0, ap Some h) | inr later ↦ began z (stands-later x (y ∷ s) z (stands-later y s z later)) ]) of in
            omega arith
      ]

  -- this many in a stretch
  pub count-le : 0 < m.period → (from long : ℕ) (s : List Release) → Spaced s → ReleasedFrom from s → ((y : Release) → IsIn s y → IsOf m y → y.released < from + long) → count s ≤ arrivals m long
  count-le periodic from long [] spaced began ended = omega arith
  count-le periodic from long (x ∷ s) spaced began ended =
      elim (cases_Bool (has_field m.field x.frame)) [
        | inl e ↦
            let is = has-of x e in
            let span = count-span from x s spaced began is in
            let until = ended x (stands-here x s) is in
            let one = count-yes x s e in
            let product : count (x ∷ s) * m.period ≡ (1 + count s) * m.period = ap (λ n. n * m.period) one in
            le-div (count (x ∷ s)) (long + m.jitter + m.period - 1) m.period periodic (omega arith)
        | inr e ↦
            let rest = count-le periodic from long s spaced.1 (λ z there. began z (stands-later x s z there)) (λ z there. ended z (stands-later x s z there)) in
            omega (arith, count-no x s e)
      ]

-- ---- how long they keep the bus

abbrev pub busy_for : List Release → ℕ
busy_for s = busy_times (map offer_of s)

pub busy-none : busy_for [] ≡ 0
unfolding span
busy-none = refl

pub busy-cons : (x : Release) (s : List Release) → busy_for (x ∷ s) ≡ busy_time x.frame + busy_for s
unfolding span
busy-cons x s = sum_by-cons busy_time x.frame (frames_of (map offer_of s))

-- each message as often as it is there
abbrev pub weighed : List Message → List Release → ℕ
weighed ms s = sum_by (λ m. count m s * m.longest) ms

pub weighed-cons : (m : Message) (ms : List Message) (s : List Release) → weighed (m ∷ ms) s ≡ count m s * m.longest + weighed ms s
weighed-cons m ms s = sum_by-cons (λ (n : Message). count n s * n.longest) m ms

weighed-more : (ms : List Message) (x : Release) (s : List Release) → weighed ms s ≤ weighed ms (x ∷ s)
weighed-more [] x s = omega arith
weighed-more (m ∷ ms) x s =
    let rest = weighed-more ms x s in
    let here = mul-le (count m s) m.longest (count m (x ∷ s)) m.longest (count-more m x s) (omega arith) in
    omega (arith, weighed-cons m ms s, weighed-cons m ms (x ∷ s))

pub weighed-of : (ms : List Message) (m : Message) (x : Release) (s : List Release) → IsIn ms m → IsOf m x → weighed ms s + m.longest ≤ weighed ms (x ∷ s)
weighed-of [] m x s there of = absurd (stands-none m there)
weighed-of (n ∷ ms) m x s there of =
    elim (stands-cases n ms m there) [
      | inl e ↦
          let is : IsOf n x = subst (λ (k : Message). IsOf k x) (sym e) of in
          let one = count-yes n x s (of-has n x is) in
          let product : count n (x ∷ s) * n.longest ≡ (1 + count n s) * n.longest = ap (λ k. k * n.longest) one in
          let same : n.longest ≡ m.longest = ap (λ (k : Message). k.longest) e in
          let rest = weighed-more ms x s in
          omega (arith, weighed-cons n ms s, weighed-cons n ms (x ∷ s))
      | inr later ↦
          let rest = weighed-of ms m x s later of in
          let here = mul-le (count n s) n.longest (count n (x ∷ s)) n.longest (count-more n x s) (omega arith) in
          omega (arith, weighed-cons n ms s, weighed-cons n ms (x ∷ s))
    ]

-- each release is of one of these messages, and no longer than it says
abbrev pub AreOf : List Message → List Release → Type 0
AreOf ms s = (x : Release) → IsIn s x → (m : Message) × IsIn ms m × IsOf m x × (busy_time x.frame ≤ m.longest)

pub busy-weighed : (ms : List Message) (s : List Release) → AreOf ms s → busy_for s ≤ weighed ms s
busy-weighed ms [] are = omega (arith, busy-none)
busy-weighed ms (x ∷ s) are =
    let one = are x (stands-here x s) in
    let rest = busy-weighed ms s (λ z there. are z (stands-later x s z there)) in
    let step = weighed-of ms one.0 x s one.1 one.2 in
    let short = one.3 in
    omega (arith, busy-cons x s)

pub weighed-load : (ms : List Message) (long : ℕ) (s : List Release) → ((m : Message) → IsIn ms m → count m s ≤ arrivals m long) → weighed ms s ≤ load ms long
weighed-load [] long s few = omega arith
weighed-load (m ∷ ms) long s few =
    let here = mul-le (count m s) m.longest (arrivals m long) m.longest (few m (stands-here m ms)) (omega arith) in
    let rest = weighed-load ms long s (λ n there. few n (stands-later m ms n there)) in
    omega (arith, weighed-cons m ms s, sum_by-cons (λ (n : Message). arrivals n long * n.longest) m ms)

-- ---- the greatest

module _ (f : Message → ℕ) where
  greatest-start : (a : ℕ) (ms : List Message) → a ≤ fold (λ b m. max b (f m)) a ms
  greatest-start a [] = omega arith
  greatest-start a (m ∷ ms) = let rest = greatest-start (max a (f m)) ms in omega arith

  greatest-from : (a : ℕ) (ms : List Message) (m : Message) → IsIn ms m → f m ≤ fold (λ b m. max b (f m)) a ms
  greatest-from a [] m there = absurd (stands-none m there)
  greatest-from a (n ∷ ms) m there =
      elim (stands-cases n ms m there) [
        | inl e ↦ let rest = greatest-start (max a (f n)) ms in let same : f n ≡ f m = ap f e in omega arith
        | inr later ↦ greatest-from (max a (f n)) ms m later
      ]

  pub greatest-le : (ms : List Message) (m : Message) → IsIn ms m → f m ≤ greatest f ms
  greatest-le ms m there = greatest-from 0 ms m there

-- ---- hits in a stretch

module _ (from long : ℕ) where
  abbrev inside : ℕ → Bool
  inside t = nat_le from t && nat_lt t (from + long)

  pub stretch-cons : (t : ℕ) (times : List ℕ) → within_stretch from long (t ∷ times) ≡ cond (inside t) 1 0 + within_stretch from long times
  stretch-cons t times = sum_by-cons (λ (k : ℕ). cond (inside k) 1 0) t times

  pub stretch-all : (times : List ℕ) → ((t : ℕ) → IsIn times t → (from ≤ t) × (t < from + long)) → length times ≤ within_stretch from long times
  stretch-all [] each = omega arith
  stretch-all (t ∷ times) each =
      let here = each t (stands-here t times) in
      let rest = stretch-all times (λ k there. each k (stands-later t times k there)) in
      let yes : inside t ≡ true = ap (λ b. b && nat_lt t (from + long)) (le-leb from t here.0) ∙ lt-ltb t (from + long) here.1 in
      let one : within_stretch from long (t ∷ times) ≡ 1 + within_stretch from long times = stretch-cons t times ∙ ap (λ b. cond b 1 0 + within_stretch from long times) yes in
      omega (arith, one, rest)
