-- A network with no shorter periods and no more hits meets the same deadlines.
use Rattle.std.proofs.Common.{◌≡◌, ℕ, zero, suc, ◌+◌, ◌-◌, ◌*◌, ◌/◌, ◌<◌, ◌≤◌, true, false, Option, None, Some, MatchOption, List, [], ◌∷◌, length, map, take, drop, refl, sym, ◌∙◌, ap, subst, inl, inr, arith}
use Rattle.std.specs.Prelude.{is_some, slice_get, unwrap_or}
use Rattle.std.proofs.Math.Nat.{lt-div-mul-add, mul-div_left}
use Rattle.std.proofs.lemmas.Bool.{cases_lt, ltb-false, ltb-true}
use Rattle.std.proofs.lemmas.List.Sums.{sum_by-cons}
use Rattle.std.proofs.lemmas.Nat.{div_below, mul-le}
use Rattle.can_frame.specs.Arbitration.{Before}
use Rattle.can_plan.specs.declared.margin.Margin.{Margin}
use Rattle.can_plan.specs.declared.margin.Strain.{Strain}
use Rattle.can_plan.specs.declared.margin.Strain.TheVariants.{MoreHits, ShorterPeriods}
use Rattle.can_plan.specs.declared.message.HitRate.{HitRate}
use Rattle.can_plan.specs.declared.message.Message.{Message}
use Rattle.can_plan.specs.Analysis.{IsBound, IsLeastBound, Ranking, arrivals, blocking, demand, greatest, hits_cost, load, ranking_at, widest}
use Rattle.can_plan.specs.Margins.{IsFirstLate, IsFirstUnder, IsMargin, MeetDeadlines, MeetUnder, MeetsDeadline, MeetsUnder, messages_under, misses_deadline, most_strain, rate_under, shorter}
use Rattle.can_plan.specs.Messages.{ArePeriodic, IsMessageSet, most_hits}
use Rattle.can_plan.proofs.Carried.{greatest-cons}
use Rattle.can_plan.proofs.Growth.{div-grows, periodic-cons}
use Rattle.can_plan.proofs.Periods.{periodic-take}

-- ---- messages with periods that are no shorter

pub record IsRarer (m n : Message) : Type 0 where
  pub period : n.period ≤ m.period
  pub longest : m.longest ≡ n.longest
  pub jitter : m.jitter ≡ n.jitter

abbrev pub AreRarer : List Message → List Message → Type 0
AreRarer [] [] = Unit {0}
AreRarer [] (n ∷ ns) = ⊥
AreRarer (m ∷ ms) [] = ⊥
AreRarer (m ∷ ms) (n ∷ ns) = IsRarer m n × AreRarer ms ns

rarer-at : (ms ns : List Message) → AreRarer ms ns → (k : ℕ) (m : Message) → slice_get ms k ≡ Some m → (n : Message) × (slice_get ns k ≡ Some n) × IsRarer m n
rarer-at [] [] are k m at = absurd (let h : None ≡ Some m = at in cc)
rarer-at [] (n ∷ ns) are k m at = absurd are
rarer-at (x ∷ ms) [] are k m at = absurd are
rarer-at (x ∷ ms) (n ∷ ns) are zero m at = let same : x ≡ m = (let h : Some x ≡ Some m = at in cc) in (n, refl, subst (λ (y : Message). IsRarer y n) same are.0)
rarer-at (x ∷ ms) (n ∷ ns) are (suc k) m at = rarer-at ms ns are.1 k m at

rarer-take : (k : ℕ) (ms ns : List Message) → AreRarer ms ns → AreRarer (take k ms) (take k ns)
rarer-take zero [] [] are = tt
rarer-take (suc k) [] [] are = tt
rarer-take k [] (n ∷ ns) are = absurd are
rarer-take k (m ∷ ms) [] are = absurd are
rarer-take zero (m ∷ ms) (n ∷ ns) are = tt
rarer-take (suc k) (m ∷ ms) (n ∷ ns) are = (are.0, rarer-take k ms ns are.1)

rarer-drop : (k : ℕ) (ms ns : List Message) → AreRarer ms ns → AreRarer (drop k ms) (drop k ns)
rarer-drop zero [] [] are = tt
rarer-drop (suc k) [] [] are = tt
rarer-drop k [] (n ∷ ns) are = absurd are
rarer-drop k (m ∷ ms) [] are = absurd are
rarer-drop zero (m ∷ ms) (n ∷ ns) are = are
rarer-drop (suc k) (m ∷ ms) (n ∷ ns) are = rarer-drop k ms ns are.1

-- ---- they keep the bus no longer

rarer-arrivals : (m n : Message) → 0 < n.period → IsRarer m n → (long : ℕ) → arrivals m long ≤ arrivals n long
rarer-arrivals m n some is long =
    let count : ℕ = arrivals n long in
    let all : long + n.jitter + n.period - 1 < count * n.period + n.period = lt-div-mul-add some in
    let more = mul-le count n.period count m.period (omega arith) is.period in
    let period = is.period in
    let below = div_below (long + m.jitter + m.period - 1) m.period (count + 1) (omega (arith, some, period)) (omega (arith, all, more, is.jitter, some, period)) in
    omega (arith, below)

rarer-load : (ms ns : List Message) → ArePeriodic ns → AreRarer ms ns → (long : ℕ) → load ms long ≤ load ns long
rarer-load [] [] periodic are long = omega arith
rarer-load [] (n ∷ ns) periodic are long = absurd are
rarer-load (m ∷ ms) [] periodic are long = absurd are
rarer-load (m ∷ ms) (n ∷ ns) periodic are long =
    let here = mul-le (arrivals m long) m.longest (arrivals n long) n.longest (rarer-arrivals m n (periodic 0 n refl) are.0 long) (omega (arith, are.0.longest)) in
    let rest = rarer-load ms ns (λ k x s. periodic (suc k) x s) are.1 long in
    omega (arith, here, rest, sum_by-cons (λ (x : Message). arrivals x long * x.longest) m ms, sum_by-cons (λ (x : Message). arrivals x long * x.longest) n ns)

same-greatest : (f : Message → ℕ) → ((m n : Message) → IsRarer m n → f m ≡ f n) → (ms ns : List Message) → AreRarer ms ns → greatest f ms ≡ greatest f ns
same-greatest f same [] [] are = refl
same-greatest f same [] (n ∷ ns) are = absurd are
same-greatest f same (m ∷ ms) [] are = absurd are
same-greatest f same (m ∷ ms) (n ∷ ns) are =
    let rest = same-greatest f same ms ns are.1 in
    omega (arith, rest, same m n are.0, greatest-cons f m ms, greatest-cons f n ns)

pub record IsRarerRanking (r s : Ranking) : Type 0 where
  pub higher : AreRarer r.higher s.higher
  pub message : IsRarer r.message s.message
  pub lower : AreRarer r.lower s.lower

module _ (most more : ℕ → ℕ) (fewer : (long : ℕ) → most long ≤ more long) (r s : Ranking) (are : IsRarerRanking r s)
    (some : 0 < s.message.period) (periodic : ArePeriodic s.higher) where
  same-blocking : blocking r ≡ blocking s
  same-blocking = same-greatest (λ m. m.longest - 1) (λ m n is. ap (λ l. l - 1) is.longest) r.lower s.lower are.lower

  same-widest : widest r ≡ widest s
  same-widest = same-greatest (λ m. m.longest) (λ m n is. is.longest) (r.message ∷ r.higher) (s.message ∷ s.higher) (are.message, are.higher)

  fewer-hits : (long : ℕ) → hits_cost most (widest r) long ≤ hits_cost more (widest s) long
  fewer-hits long =
      let wide = same-widest in
      let few = fewer (long + widest r - 5) in
      let here : more (long + widest r - 5) ≡ more (long + widest s - 5) = ap (λ w. more (long + w - 5)) same-widest in
      mul-le (most (long + widest r - 5)) (widest r + 13) (more (long + widest s - 5)) (widest s + 13) (omega (arith, few, here)) (omega (arith, wide))

  less-demand : (time longer : ℕ) (ms ns : List Message) → time ≤ longer → ArePeriodic ns → AreRarer ms ns → (long : ℕ) →
      demand most time (widest r) ms long ≤ demand more longer (widest s) ns long
  less-demand time longer ms ns less each rarer long = omega (arith, less, rarer-load ms ns each rarer long, fewer-hits long)

  pub rarer-bound : (limit bound : ℕ) → IsBound more limit s bound → IsBound most limit r bound
  rarer-bound limit bound b =
      let busy = less-demand (blocking r) (blocking s) (r.message ∷ r.higher) (s.message ∷ s.higher) (omega (arith, same-blocking))
      (periodic-cons s.message s.higher some periodic) (are.message, are.higher) b.long in
      record {
        long = b.long;
        some = b.some;
        busy = omega (arith, busy, b.busy);
        limited = b.limited;
        each = λ q few.
            let one = b.each q (omega (arith, few, rarer-arrivals r.message s.message some are.message b.long)) in
            let own : q * r.message.longest ≡ q * s.message.longest = ap (λ l. q * l) are.message.longest in
            let less = less-demand (blocking r + q * r.message.longest) (blocking s + q * s.message.longest) r.higher s.higher (omega (arith, same-blocking, own)) periodic are.higher (one.0 + 1) in
            let later = mul-le q s.message.period q r.message.period (omega arith) are.message.period in (
              one.0,
              one.1,
              record { delays = omega (arith, less, one.2.delays); enough = omega (arith, one.2.enough, later, are.message.jitter, are.message.longest) },
            );
      }

meets-rarer : (rate more : HitRate) (limit : ℕ) (ms ns : List Message) (deadlines : List ℕ) → ((long : ℕ) → most_hits rate long ≤ most_hits more long) → ArePeriodic ns → AreRarer ms ns →
    (place : ℕ) → MeetsDeadline more limit ns deadlines place → MeetsDeadline rate limit ms deadlines place
meets-rarer rate more limit ms ns deadlines fewer periodic are place met m deadline here due =
    let other = rarer-at ms ns are place m here in
    rarer-bound (most_hits rate) (most_hits more) fewer (ranking_at ms place m) (ranking_at ns place other.0)
    (record { higher = rarer-take place ms ns are; message = other.2; lower = rarer-drop (place + 1) ms ns are })
    (periodic place other.0 other.1) (periodic-take place ns periodic) limit deadline (met other.0 deadline other.1 due)

-- ---- less strain

shorter-rarer : (a b : ℕ) → a ≤ b → (m : Message) → IsRarer (shorter a m) (shorter b m)
shorter-rarer a b less m = record {
  period =
      let kept = mul-le m.period (100 - b) m.period (100 - a) (omega arith) (omega (arith, less)) in
      let part = div-grows (m.period * (100 - b)) (m.period * (100 - a)) 100 (omega arith) kept in
      omega (arith, part);
  longest = refl;
  jitter = refl;
}

as-it-is : (m : Message) → IsRarer (shorter 0 m) m
as-it-is m = record {
  period = let whole : m.period * 100 / 100 ≡ m.period = mul-div_left m.period (omega arith) in omega (arith, whole);
  longest = refl;
  jitter = refl;
}

same-message : (m : Message) → IsRarer m m
same-message m = record { period = omega arith; longest = refl; jitter = refl }

rarer-map : (f g : Message → Message) → ((m : Message) → IsRarer (f m) (g m)) → (ms : List Message) → AreRarer (map f ms) (map g ms)
rarer-map f g each [] = tt
rarer-map f g each (m ∷ ms) = (each m, rarer-map f g each ms)

-- against the messages as they are
rarer-same : (f : Message → Message) → ((m : Message) → IsRarer (f m) m) → (ms : List Message) → AreRarer (map f ms) ms
rarer-same f each [] = tt
rarer-same f each (m ∷ ms) = (each m, rarer-same f each ms)

rarer-self : (ms : List Message) → AreRarer ms ms
rarer-self [] = tt
rarer-self (m ∷ ms) = (same-message m, rarer-self ms)

shorter-periodic : (percent : ℕ) (ms : List Message) → ArePeriodic (map (shorter percent) ms)
shorter-periodic percent [] k m at = absurd (let h : None ≡ Some m = at in cc)
shorter-periodic percent (x ∷ ms) zero m at =
    let same : shorter percent x ≡ m = (let h : Some (shorter percent x) ≡ Some m = at in cc) in
    let some : 0 < (shorter percent x).period = omega arith in
    subst (λ (y : Message). 0 < y.period) same some
shorter-periodic percent (x ∷ ms) (suc k) m at = shorter-periodic percent ms k m at

pub periodic-under : (strain : Strain) (more : ℕ) (ms : List Message) → ArePeriodic ms → ArePeriodic (messages_under strain more ms)
periodic-under ShorterPeriods more ms periodic = shorter-periodic more ms
periodic-under MoreHits more ms periodic = periodic

shorter-at : (percent : ℕ) (ms : List Message) (k : ℕ) (m : Message) → slice_get (map (shorter percent) ms) k ≡ Some m → (x : Message) × (slice_get ms k ≡ Some x) × (shorter percent x ≡ m)
shorter-at percent [] k m at = absurd (let h : None ≡ Some m = at in cc)
shorter-at percent (x ∷ ms) zero m at = let same : shorter percent x ≡ m = (let h : Some (shorter percent x) ≡ Some m = at in cc) in (x, refl, same)
shorter-at percent (x ∷ ms) (suc k) m at = shorter-at percent ms k m at

-- no field changes, and no longest time on the bus
pub set-under : (strain : Strain) (more : ℕ) (ms : List Message) → IsMessageSet ms → IsMessageSet (messages_under strain more ms)
set-under MoreHits more ms set = set
set-under ShorterPeriods more ms set = record {
  ascending = λ i j a b less here there.
      let first = shorter-at more ms i a here in
      let second = shorter-at more ms j b there in
      subst (λ (m : Message). Before m.field b.field) first.2 (subst (λ (m : Message). Before first.0.field m.field) second.2 (set.ascending i j first.0 second.0 less first.1 second.1));
  periodic = shorter-periodic more ms;
  sized = λ m there. let one = shorter-at more ms there.0 m there.1 in subst (λ (n : Message). 0 < n.longest) one.2 (set.sized one.0 (there.0, one.1));
}

rarer-under : (strain : Strain) (a b : ℕ) → a ≤ b → (ms : List Message) → AreRarer (messages_under strain a ms) (messages_under strain b ms)
rarer-under ShorterPeriods a b less ms = rarer-map (shorter a) (shorter b) (shorter-rarer a b less) ms
rarer-under MoreHits a b less ms = rarer-self ms

fewer-under : (strain : Strain) (a b : ℕ) → a ≤ b → (rate : HitRate) (long : ℕ) → most_hits (rate_under strain a rate) long ≤ most_hits (rate_under strain b rate) long
fewer-under ShorterPeriods a b less rate long = omega arith
fewer-under MoreHits a b less rate long = omega (arith, less)

rarer-unstrained : (strain : Strain) (ms : List Message) → AreRarer (messages_under strain 0 ms) ms
rarer-unstrained ShorterPeriods ms = rarer-same (shorter 0) as-it-is ms
rarer-unstrained MoreHits ms = rarer-self ms

fewer-unstrained : (strain : Strain) (rate : HitRate) (long : ℕ) → most_hits (rate_under strain 0 rate) long ≤ most_hits rate long
fewer-unstrained ShorterPeriods rate long = omega arith
fewer-unstrained MoreHits rate long = omega arith

-- ---- one bound and its deadline

module _ (rate : HitRate) (limit : ℕ) (r : Ranking) where
  abbrev pub Answers : Option ℕ → Type 0
  Answers bound = MatchOption bound ((other : ℕ) → IsBound (most_hits rate) limit r other → ⊥) (λ b. IsLeastBound (most_hits rate) limit r b)

module _ (rate : HitRate) (limit : ℕ) (r : Ranking) (deadline : ℕ) where
  pub met-by : (bound : Option ℕ) → Answers rate limit r bound → misses_deadline deadline bound ≡ false → IsBound (most_hits rate) limit r deadline
  met-by None answers not = absurd (let h : true ≡ false = not in cc)
  met-by (Some bound) answers not =
      let b = answers.is in
      let early : bound ≤ deadline = ltb-false deadline bound not in
      record {
        long = b.long;
        some = b.some;
        busy = b.busy;
        limited = b.limited;
        each = λ q few. let one = b.each q few in let enough = one.2.enough in (one.0, one.1, record { delays = one.2.delays; enough = omega (arith, enough, early) });
      }

  pub missed-by : (bound : Option ℕ) → Answers rate limit r bound → misses_deadline deadline bound ≡ true → IsBound (most_hits rate) limit r deadline → ⊥
  missed-by None answers above is = answers deadline is
  missed-by (Some bound) answers above is = let less = ltb-true deadline bound above in let least = answers.least deadline is in absurd (omega (arith, less, least))

at-place : (ms : List Message) (k : ℕ) → k < length ms → (m : Message) × (slice_get ms k ≡ Some m)
at-place [] k within = absurd (omega (arith, within))
at-place (m ∷ ms) zero within = (m, refl)
at-place (m ∷ ms) (suc k) within = at-place ms k (omega (arith, within))

-- a message without a bound may be late
pub unbounded : (deadline : ℕ) (bound : Option ℕ) → is_some bound ≡ false → misses_deadline deadline bound ≡ true
unbounded deadline None none = refl
unbounded deadline (Some b) none = cc

-- what is answered of the message at a place, and its deadline
module _ (rate : HitRate) (limit : ℕ) (ms : List Message) (deadlines : List ℕ) (place : ℕ) (bound : Option ℕ)
    (told : (m : Message) → slice_get ms place ≡ Some m → ArePeriodic ms → Answers rate limit (ranking_at ms place m) bound)
    (deadline : ℕ) (due : slice_get deadlines place ≡ Some deadline) where
  pub met-here : misses_deadline deadline bound ≡ false → ArePeriodic ms → MeetsDeadline rate limit ms deadlines place
  met-here not periodic m other here there =
      let same : deadline ≡ other = (let h : Some deadline ≡ Some other = sym due ∙ there in cc) in
      met-by rate limit (ranking_at ms place m) other bound (told m here periodic) (subst (λ d. misses_deadline d bound ≡ false) same not)

  pub first-here : place < length ms → misses_deadline deadline bound ≡ true → ArePeriodic ms → ((k : ℕ) → k < place → MeetsDeadline rate limit ms deadlines k) →
      IsFirstLate rate limit ms deadlines place
  first-here within above periodic before =
      let m = at-place ms place within in
      record {
        message = m.0;
        deadline = deadline;
        here = m.1;
        due = due;
        late = missed-by rate limit (ranking_at ms place m.0) deadline bound (told m.0 m.1 periodic) above;
        before = before;
      }

-- ---- the margin

first-misses : (rate : HitRate) (limit : ℕ) (ms : List Message) (deadlines : List ℕ) (place : ℕ) → IsFirstLate rate limit ms deadlines place → MeetDeadlines rate limit ms deadlines → ⊥
first-misses rate limit ms deadlines place first met = first.late (met place first.message first.deadline first.here first.due)

-- what is answered of the network as it is
pub none-late : (rate : HitRate) (limit : ℕ) (ms : List Message) (deadlines : List ℕ) (late : Option ℕ) →
    MatchOption late (MeetDeadlines rate limit ms deadlines) (IsFirstLate rate limit ms deadlines) → is_some late ≡ false → MeetDeadlines rate limit ms deadlines
none-late rate limit ms deadlines None met none = met
none-late rate limit ms deadlines (Some place) first none = absurd (let h : true ≡ false = none in cc)

pub some-late : (rate : HitRate) (limit : ℕ) (ms : List Message) (deadlines : List ℕ) (late : Option ℕ) →
    MatchOption late (MeetDeadlines rate limit ms deadlines) (IsFirstLate rate limit ms deadlines) → is_some late ≡ true → MeetDeadlines rate limit ms deadlines → ⊥
some-late rate limit ms deadlines None met some all = absurd (let h : false ≡ true = some in cc)
some-late rate limit ms deadlines (Some place) first some all = first-misses rate limit ms deadlines place first all

module _ (strain : Strain) (rate : HitRate) (limit : ℕ) (ms : List Message) (deadlines : List ℕ) where
  -- what is known above this number: that no more may be asked, or that a message misses its deadline
  abbrev pub IsKnownAbove : Option ℕ → ℕ → Type 0
  IsKnownAbove late last = MatchOption late (last ≡ most_strain strain rate) (λ place. (last < most_strain strain rate) × IsFirstUnder strain rate limit ms deadlines (last + 1) place)

  -- the margin is between what is met and this number
  abbrev pub IsUpTo : Margin → ℕ → Type 0
  IsUpTo margin last = MeetUnder strain rate limit ms deadlines margin.most × (margin.most ≤ last) × (last ≤ most_strain strain rate) × IsKnownAbove margin.late last

module _ (strain : Strain) (rate : HitRate) (limit : ℕ) (ms : List Message) (deadlines : List ℕ) (periodic : ArePeriodic ms) where
  pub meet-unstrained : MeetDeadlines rate limit ms deadlines → MeetUnder strain rate limit ms deadlines 0
  meet-unstrained met place =
      meets-rarer (rate_under strain 0 rate) rate limit (messages_under strain 0 ms) ms deadlines (fewer-unstrained strain rate) periodic (rarer-unstrained strain ms) place (met place)

  meets-less : (a b : ℕ) → a ≤ b → (place : ℕ) → MeetsUnder strain rate limit ms deadlines b place → MeetsUnder strain rate limit ms deadlines a place
  meets-less a b less place met =
      meets-rarer (rate_under strain a rate) (rate_under strain b rate) limit (messages_under strain a ms) (messages_under strain b ms) deadlines
      (fewer-under strain a b less rate) (periodic-under strain b ms periodic) (rarer-under strain a b less ms) place met

  meet-less : (a b : ℕ) → a ≤ b → MeetUnder strain rate limit ms deadlines b → MeetUnder strain rate limit ms deadlines a
  meet-less a b less met place = meets-less a b less place (met place)

  -- those before a message that is the first to be late with more
  pub known-before : (late : Option ℕ) (last more : ℕ) → IsKnownAbove strain rate limit ms deadlines late last → more ≤ last →
      (k : ℕ) → k < unwrap_or late 0 → MeetsUnder strain rate limit ms deadlines more k
  known-before None last more known less k few = absurd (omega (arith, few))
  known-before (Some place) last more known less k few = meets-less more (last + 1) (omega (arith, less)) k (known.1.before k few)

  not-above : (late : Option ℕ) (last more : ℕ) → IsKnownAbove strain rate limit ms deadlines late last → last < more → more ≤ most_strain strain rate → MeetUnder strain rate limit ms deadlines more → ⊥
  not-above None last more known above few met = absurd (omega (arith, known, above, few))
  not-above (Some place) last more known above few met =
      first-misses (rate_under strain (last + 1) rate) limit (messages_under strain (last + 1) ms) deadlines place known.1 (meet-less (last + 1) more (omega (arith, above)) met)

  pub is-margin : (margin : Margin) (last : ℕ) → last ≤ margin.most → IsUpTo strain rate limit ms deadlines margin last → IsMargin strain rate limit ms deadlines margin
  is-margin margin last ended up =
      let same : last ≡ margin.most = omega (arith, ended, up.1) in
      record {
        within = omega (arith, up.2, same);
        exact = λ more few. (
          λ met. elim (cases_lt last more) [
            | inl above ↦ absurd (not-above margin.late last more up.3 above few met)
            | inr below ↦ omega (arith, below, same)
          ],
          λ less. meet-less more margin.most less up.0,
        );
        late = subst (λ n. IsKnownAbove strain rate limit ms deadlines margin.late n) same up.3;
      }
