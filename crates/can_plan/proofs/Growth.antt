-- What keeps the bus in a longer stretch is no less.
use Rattle.std.proofs.Common.{◌≡◌, ℕ, zero, suc, ◌+◌, ◌-◌, ◌*◌, ◌/◌, ◌<◌, ◌≤◌, Some, List, [], ◌∷◌, refl, ◌∙◌, ap, subst, inl, inr, arith}
use Rattle.std.specs.Prelude.{◌==◌}
use Rattle.std.proofs.lemmas.Nat.{le-div, mul-le}
use Rattle.std.proofs.lemmas.Bool.{cases_Bool, cond-true, cond-false, eqb-false}
use Rattle.std.proofs.lemmas.List.Sums.{sum_by-cons}
use Rattle.std.proofs.Math.Nat.{div-mul-le_self}
use Rattle.can_plan.specs.declared.message.Message.{Message}
use Rattle.can_plan.specs.declared.message.HitRate.{HitRate}
use Rattle.can_plan.specs.Messages.{ArePeriodic, most_hits}
use Rattle.can_plan.specs.Analysis.{arrivals, load, demand}

pub div-grows : (a b n : ℕ) → 0 < n → a ≤ b → a / n ≤ b / n
div-grows a b n some less = le-div (a / n) b n some (omega (arith, div-mul-le_self a n))

pub arrivals-grow : (m : Message) (a b : ℕ) → 0 < m.period → a ≤ b → arrivals m a ≤ arrivals m b
arrivals-grow m a b some less = div-grows (a + m.jitter + m.period - 1) (b + m.jitter + m.period - 1) m.period some (omega arith)

pub load-grows : (ms : List Message) (a b : ℕ) → ArePeriodic ms → a ≤ b → load ms a ≤ load ms b
load-grows [] a b periodic less = omega arith
load-grows (m ∷ ms) a b periodic less =
    let here = mul-le (arrivals m a) m.longest (arrivals m b) m.longest (arrivals-grow m a b (periodic 0 m refl) less) (omega arith) in
    let rest = load-grows ms a b (λ k n s. periodic (suc k) n s) less in
    omega (arith, sum_by-cons (λ (n : Message). arrivals n a * n.longest) m ms, sum_by-cons (λ (n : Message). arrivals n b * n.longest) m ms)

pub hits-grow : (rate : HitRate) (a b : ℕ) → a ≤ b → most_hits rate a ≤ most_hits rate b
hits-grow rate a b less =
    elim (cases_Bool (rate.spacing == 0)) [
      | inl e ↦ omega (arith, cond-true (rate.spacing == 0) 0 (a / rate.spacing) e, cond-true (rate.spacing == 0) 0 (b / rate.spacing) e)
      | inr e ↦
          let more = div-grows a b rate.spacing (let h = eqb-false rate.spacing 0 e in omega arith) less in
          omega (arith, cond-false (rate.spacing == 0) 0 (a / rate.spacing) e, cond-false (rate.spacing == 0) 0 (b / rate.spacing) e)
    ]

pub demand-grows : (rate : HitRate) (time widest : ℕ) (ms : List Message) (a b : ℕ) → ArePeriodic ms → a ≤ b → demand (most_hits rate) time widest ms a ≤ demand (most_hits rate) time widest ms b
demand-grows rate time widest ms a b periodic less =
    let l = load-grows ms a b periodic less in
    let hits = mul-le (most_hits rate (a + widest - 5)) (widest + 13) (most_hits rate (b + widest - 5)) (widest + 13) (hits-grow rate (a + widest - 5) (b + widest - 5) (omega arith)) (omega arith) in
    omega arith

-- a message in front, separately
pub demand-cons : (rate : HitRate) (time widest : ℕ) (m : Message) (ms : List Message) (long : ℕ) →
    demand (most_hits rate) (time + arrivals m long * m.longest) widest ms long ≡ demand (most_hits rate) time widest (m ∷ ms) long
demand-cons rate time widest m ms long = omega (arith, sum_by-cons (λ (n : Message). arrivals n long * n.longest) m ms)

pub periodic-cons : (m : Message) (ms : List Message) → 0 < m.period → ArePeriodic ms → ArePeriodic (m ∷ ms)
periodic-cons m ms some periodic zero n e = let same : m ≡ n = (let h : Some m ≡ Some n = e in cc) in subst (λ (k : Message). 0 < k.period) same some
periodic-cons m ms some periodic (suc k) n e = periodic k n e

-- if the numbers of a call are those of the ranking
pub demand-at : (rate : HitRate) (time widest : ℕ) (m : Message) (ms : List Message) (long first second own front : ℕ) → first ≡ long → second ≡ long → front ≡ time → own ≡ arrivals m first * m.longest →
    demand (most_hits rate) (front + own) widest ms second ≡ demand (most_hits rate) time widest (m ∷ ms) long
demand-at rate time widest m ms long first second own front e f g h =
    ap (λ t. demand (most_hits rate) t widest ms second) (let k : own ≡ arrivals m long * m.longest = h ∙ ap (λ l. arrivals m l * m.longest) e in (let s : front + own ≡ time + arrivals m long * m.longest = omega arith in s))
    ∙ ap (λ l. demand (most_hits rate) (time + arrivals m long * m.longest) widest ms l) f
    ∙ demand-cons rate time widest m ms long

pub busy-grows : (rate : HitRate) (time widest : ℕ) (m : Message) (ms : List Message) (a b : ℕ) → 0 < m.period → ArePeriodic ms → a ≤ b →
    demand (most_hits rate) time widest (m ∷ ms) a ≤ demand (most_hits rate) time widest (m ∷ ms) b
busy-grows rate time widest m ms a b some periodic less = demand-grows rate time widest (m ∷ ms) a b (periodic-cons m ms some periodic) less
