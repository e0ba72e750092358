-- What the busy period of one message says of the next.
use Rattle.std.proofs.Common.{◌≡◌, ℕ, zero, suc, ◌+◌, ◌-◌, ◌*◌, ◌<◌, ◌≤◌, Some, List, [], ◌∷◌, ◌++◌, ◌⊎◌, get_or, length, take, drop, length-drop, refl, sym, ◌∙◌, ap, subst, inl, inr, arith}
use Rattle.std.specs.Prelude.{max, fold, slice_get, Option, None, MatchOption}
use Rattle.std.proofs.lemmas.List.{take_all, take_more}
use Rattle.std.proofs.lemmas.List.Sums.{fold-append, sum_by-append, sum_by-cons}
use Rattle.std.proofs.lemmas.Nat.{mul-le}
use Rattle.std.proofs.lemmas.Option.{slice_get-get_or, slice_get_within, get_or_from_slice_get}
use Rattle.can_plan.specs.declared.message.HitRate.{HitRate}
use Rattle.can_plan.specs.declared.message.Message.{Message}
use Rattle.can_plan.specs.Messages.{most_hits}
use Rattle.can_plan.specs.Analysis.{HasBeenFree, IsBusyPeriod, Ranking, arrivals, blocking, busied, demand, greatest, hits_cost, load, ranking_at, widest}
use Rattle.can_plan.specs.Carried.{IsBusyBefore}
use Rattle.can_plan.proofs.Growth.{hits-grow}

-- ---- lists with one message more

take-snoc : (ms : List Message) (k : ℕ) (m : Message) → slice_get ms k ≡ Some m → take (k + 1) ms ≡ take k ms ++ m ∷ []
take-snoc ms k m at = take_more ms k m (slice_get_within ms k m at) ∙ ap (λ x. take k ms ++ x ∷ []) (get_or_from_slice_get ms k m m at)

drop-front : (ms : List Message) (k : ℕ) (m : Message) → slice_get ms k ≡ Some m → drop k ms ≡ m ∷ drop (k + 1) ms
drop-front [] k m at = cc
drop-front (x ∷ ms) zero m at = let same : x ≡ m = (let h : Some x ≡ Some m = at in cc) in ap (λ y. y ∷ ms) same
drop-front (x ∷ ms) (suc k) m at =
    let next : suc k + 1 ≡ suc (k + 1) = omega arith in
    drop-front ms k m at ∙ ap (λ n. m ∷ drop n (x ∷ ms)) (sym next)

module _ (f : Message → ℕ) where
  greatest-start : (a : ℕ) (ms : List Message) → fold (λ b m. max b (f m)) a ms ≡ max a (greatest f ms)
  greatest-start a [] = omega arith
  greatest-start a (m ∷ ms) = let one = greatest-start (max a (f m)) ms in let none = greatest-start (max 0 (f m)) ms in omega arith

  pub greatest-cons : (m : Message) (ms : List Message) → greatest f (m ∷ ms) ≡ max (f m) (greatest f ms)
  greatest-cons m ms = let e = greatest-start (max 0 (f m)) ms in omega arith

  greatest-snoc : (m : Message) (ms : List Message) → greatest f (ms ++ m ∷ []) ≡ max (greatest f ms) (f m)
  greatest-snoc m ms = fold-append (λ b k. max b (f k)) 0 ms (m ∷ [])

-- ---- a place and the next

module _ (rate : HitRate) (ms : List Message) (k : ℕ) (m next : Message) (at : slice_get ms k ≡ Some m) (there : slice_get ms (k + 1) ≡ Some next) where
  wider : widest (ranking_at ms k m) ≤ widest (ranking_at ms (k + 1) next)
  wider =
      let a = greatest-cons (λ x. x.longest) m (take k ms) in
      let b = greatest-cons (λ x. x.longest) next (take (k + 1) ms) in
      let c : greatest (λ x. x.longest) (take (k + 1) ms) ≡ max (greatest (λ x. x.longest) (take k ms)) m.longest =
      ap (greatest (λ x. x.longest)) (take-snoc ms k m at) ∙ greatest-snoc (λ x. x.longest) m (take k ms) in
      omega arith

  blocked : blocking (ranking_at ms k m) ≡ max (next.longest - 1) (blocking (ranking_at ms (k + 1) next))
  blocked = ap (greatest (λ x. x.longest - 1)) (drop-front ms (k + 1) next there) ∙ greatest-cons (λ x. x.longest - 1) next (drop (k + 1 + 1) ms)

  -- those before the next
  loaded : (long : ℕ) → load (take (k + 1) ms) long ≡ arrivals m long * m.longest + load (take k ms) long
  loaded long =
      let e = ap (λ l. load l long) (take-snoc ms k m at) ∙ sum_by-append (λ (x : Message). arrivals x long * x.longest) (take k ms) (m ∷ []) in
      omega (arith, sum_by-cons (λ (x : Message). arrivals x long * x.longest) m [])

  hit-more : (long : ℕ) → hits_cost (most_hits rate) (widest (ranking_at ms k m)) long ≤ hits_cost (most_hits rate) (widest (ranking_at ms (k + 1) next)) long
  hit-more long =
      let w = wider in
      mul-le (most_hits rate (long + widest (ranking_at ms k m) - 5)) (widest (ranking_at ms k m) + 13)
      (most_hits rate (long + widest (ranking_at ms (k + 1) next) - 5)) (widest (ranking_at ms (k + 1) next) + 13)
      (hits-grow rate (long + widest (ranking_at ms k m) - 5) (long + widest (ranking_at ms (k + 1) next) - 5) (omega arith)) (omega arith)

  -- if those before the next are free, with the next or a lower one that blocks them, this one is
  pub free-before : (n : ℕ) → demand (most_hits rate) (max (next.longest - 1) (blocking (ranking_at ms (k + 1) next))) (widest (ranking_at ms (k + 1) next)) (take (k + 1) ms) n ≤ n →
      busied (most_hits rate) (ranking_at ms k m) n ≤ n
  free-before n h =
      let b = blocked in
      let hit = hit-more n in
      omega (arith, loaded n, sum_by-cons (λ (x : Message). arrivals x n * x.longest) m (take k ms))

-- ---- what is known of the place before

none-or-before : (place : ℕ) → (place ≡ 0) ⊎ ((k : ℕ) × (place ≡ k + 1))
none-or-before zero = inl refl
none-or-before (suc k) = inr (k, omega arith)

-- the parts of the slice before a place and after it
pub ranking-here : (ms : List Message) (place : ℕ) (m : Message) → record { higher = take place ms; message = m; lower = take (length ms - (place + 1)) (drop (place + 1) ms) } ≡ ranking_at ms place m
ranking-here ms place m =
    let lower : take (length ms - (place + 1)) (drop (place + 1) ms) ≡ drop (place + 1) ms = take_all (length ms - (place + 1)) (drop (place + 1) ms) (omega (arith, length-drop (place + 1) ms)) in
    let at : List Message → Ranking = λ l. record { higher = take place ms; message = m; lower = l } in
    ap at lower

module _ (rate : HitRate) (ms : List Message) (place busy : ℕ) (next : Message) (there : slice_get ms place ≡ Some next) (told : IsBusyBefore (most_hits rate) ms place busy) where
  -- the message before this one
  before : (k : ℕ) → place ≡ k + 1 → (m : Message) × (slice_get ms k ≡ Some m)
  before k e = (get_or ms k next, slice_get-get_or ms k next (let within = slice_get_within ms place next there in omega arith))

  pub free-told : (n : ℕ) → 0 < n → demand (most_hits rate) (max (next.longest - 1) (blocking (ranking_at ms place next))) (widest (ranking_at ms place next)) (take place ms) n ≤ n → busy ≤ n
  free-told n some h =
      elim (none-or-before place) [
        | inl e ↦ let none = told.first e in omega arith
        | inr w ↦
            let m = before w.0 w.1 in
            told.next w.0 m.0 n w.1 m.1 some
            (free-before rate ms w.0 m.0 next m.1 (subst (λ p. slice_get ms p ≡ Some next) w.1 there) n
            (subst (λ p. demand (most_hits rate) (max (next.longest - 1) (blocking (ranking_at ms p next))) (widest (ranking_at ms p next)) (take p ms) n ≤ n) w.1 h))
      ]

-- ---- what is known of the place after

-- no busy period is shorter
at-least : (most : ℕ → ℕ) (limit : ℕ) (r : Ranking) (busy : Option ℕ) (known : ℕ) → IsBusyPeriod most limit r busy → MatchOption busy (known ≡ limit + 1) (λ long. known ≡ long) →
    (n : ℕ) → HasBeenFree most r n → known ≤ n
at-least most limit r None known is same n free = let past = is n free in omega (arith, past, same)
at-least most limit r (Some long) known is same n free = let least = is.1.below n free in omega (arith, least, same)

pub busy-next : (rate : HitRate) (limit : ℕ) (ms : List Message) (place : ℕ) (here : Message) → slice_get ms place ≡ Some here → (busy : Option ℕ) (known : ℕ) →
    IsBusyPeriod (most_hits rate) limit (ranking_at ms place here) busy → MatchOption busy (known ≡ limit + 1) (λ long. known ≡ long) → IsBusyBefore (most_hits rate) ms (place + 1) known
busy-next rate limit ms place here there busy known is same = record {
  first = λ e. absurd (omega (arith, e));
  next = λ k m n e at some h.
      let one : k ≡ place = omega (arith, e) in
      let item : m ≡ here = (let e : Some m ≡ Some here = sym at ∙ ap (slice_get ms) one ∙ there in cc) in
      let free : busied (most_hits rate) (ranking_at ms place here) n ≤ n =
      subst (λ x. busied (most_hits rate) (ranking_at ms place x) n ≤ n) item (subst (λ p. busied (most_hits rate) (ranking_at ms p m) n ≤ n) one h) in
      at-least (most_hits rate) limit (ranking_at ms place here) busy known is same n (some, free);
}
