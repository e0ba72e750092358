-- A window over a course: since when the bus has had no older frame of a message, and of those before it, to send, and
-- what it has done since.
use Rattle.std.proofs.Common.{◌≡◌, ◌≢◌, ℕ, ◌+◌, ◌-◌, ◌*◌, ◌<◌, ◌≤◌, ◌⊎◌, List, [], ◌∷◌, ◌++◌, length, subst, inl, inr, arith}
use Rattle.std.specs.Prelude.{max}
use Rattle.std.proofs.lemmas.Bool.{cases_lt}
use Rattle.std.proofs.lemmas.Nat.{mul-le}
use Rattle.can_frame.specs.Arbitration.{arbitration_field, Before}
use Rattle.can_bus.specs.Course.{Transmission}
use Rattle.can_bus.specs.Quiet.{busy_time}
use Rattle.can_bus.proofs.Members.{stands-none, stands-later, stands-cases}
use Rattle.can_plan.specs.declared.message.Message.{Message}
use Rattle.can_plan.specs.Messages.{IsIn, Release, IsOf, IsWithin, hit_times, within_stretch}
use Rattle.can_plan.specs.Analysis.{Ranking, arrivals, blocking, widest, delayed, busied}
use Rattle.can_plan.proofs.Counts.{count, Spaced, count-le, busy_for, busy-none, weighed, weighed-cons, weighed-of, AreOf, busy-weighed, weighed-load, stretch-all}

-- ---- releases, as the messages have them

pub record Fits (messages : List Message) (x : Release) : Type 0 where
  pub known : (m : Message) × IsIn messages m × IsOf m x
  pub within : (m : Message) → IsIn messages m → IsOf m x → IsWithin m x

-- of one message, the second is released a period after the first
abbrev pub Apart : List Message → Release → Release → Type 0
Apart messages x y = (m : Message) → IsIn messages m → IsOf m x → IsOf m y → x.released + m.period ≤ y.released

abbrev pub InOrder : List Message → List Release → Type 0
InOrder messages [] = Unit {0}
InOrder messages (x ∷ left) = ((y : Release) → IsIn left y → Apart messages x y) × InOrder messages left

pub record IsLeft (messages : List Message) (left : List Release) : Type 0 where
  pub fits : (x : Release) → IsIn left x → Fits messages x
  pub ordered : InOrder messages left

-- ---- the next to start

pub record IsNextOf (free start : ℕ) (x : Release) (before after : List Release) : Type 0 where
  pub in_time : x.offered ≤ start
  pub is_free : free ≤ start
  pub soon : (z : Release) → IsIn (before ++ x ∷ after) z → start ≤ max free z.offered
  pub first : (z : Release) → IsIn (before ++ x ∷ after) z → z.offered ≤ start →
      Before (arbitration_field x.frame) (arbitration_field z.frame) ⊎ (arbitration_field x.frame ≡ arbitration_field z.frame)
  pub foremost : (z : Release) → IsIn before z → arbitration_field z.frame ≢ arbitration_field x.frame

-- ---- the message, those with higher and those with lower priority

abbrev pub upper : Ranking → List Message
upper ranking = ranking.message ∷ ranking.higher

pub record IsRanked (messages : List Message) (ranking : Ranking) : Type 0 where
  pub members : (m : Message) → IsIn (upper ranking) m → IsIn messages m
  pub others : (m : Message) → IsIn ranking.lower m → IsIn messages m
  pub either : (m : Message) → IsIn messages m → IsIn (upper ranking) m ⊎ IsIn ranking.lower m
  pub above : (m n : Message) → IsIn (upper ranking) m → IsIn ranking.lower n → Before m.field n.field
  pub periodic : (m : Message) → IsIn messages m → 0 < m.period
  pub sized : 0 < ranking.message.longest

abbrev pub IsUpper : Ranking → Release → Type 0
IsUpper ranking x = (m : Message) × IsIn (upper ranking) m × IsOf m x

-- what was served was offered, and the hits fell, within this time after the beginning
pub record IsSoon (ranking : Ranking) (from long : ℕ) (served : List Release) (past : List ℕ) : Type 0 where
  pub offers : (y : Release) → IsIn served y → y.offered < from + long
  pub hits : (t : ℕ) → IsIn past t → t + 5 < from + long + widest ranking

-- frames of the message, and of those before it, that are offered from a time on
pub record AreSince (messages : List Message) (ranking : Ranking) (from : ℕ) (served : List Release) : Type 0 where
  pub began : (y : Release) → IsIn served y → from ≤ y.offered
  pub members : AreOf (upper ranking) served
  pub fits : (y : Release) → IsIn served y → Fits messages y
  pub spaced : (m : Message) → IsIn messages m → Spaced m served

pub record Window (messages : List Message) (ranking : Ranking) (most : ℕ → ℕ) (long free : ℕ) (left : List Release) (coming : List Transmission) : Type 0 where
  pub from : ℕ
  pub served : List Release
  pub past : List ℕ
  pub since : AreSince messages ranking from served
  pub later : (z : Release) → IsIn left z → IsUpper ranking z → from ≤ z.offered
  pub apart : (y z : Release) → IsIn served y → IsIn left z → Apart messages y z
  pub spent : free ≤ from + blocking ranking + busy_for served + length past * (widest ranking + 13)
  pub hits_began : (t : ℕ) → IsIn past t → from ≤ t
  pub few : (t len : ℕ) → within_stretch t len past + within_stretch t len (hit_times coming) ≤ most len
  pub in_long : IsSoon ranking from long served past
  pub in_delay : (q w : ℕ) → delayed most ranking q w ≤ w → count ranking.message served ≤ q → IsSoon ranking from (w + 1) served past

-- such a frame starts now
pub record Ready (messages : List Message) (ranking : Ranking) (most : ℕ → ℕ) (long start : ℕ) (left : List Release) (coming : List Transmission) : Type 0 where
  pub window : Window messages ranking most long start left coming
  pub soon : start < window.from + long
  pub delay : (q w : ℕ) → delayed most ranking q w ≤ w → count ranking.message window.served ≤ q → start ≤ window.from + w

module _ (messages : List Message) (ranking : Ranking) (is : IsRanked messages ranking) where
  -- ---- how much has been served

  pub counted : (from long : ℕ) (s : List Release) → AreSince messages ranking from s → ((y : Release) → IsIn s y → y.offered < from + long) → (m : Message) → IsIn (upper ranking) m →
      count m s ≤ arrivals m long
  counted from long s since soon m there =
      count-le m (is.periodic m (is.members m there)) from long s (since.spaced m (is.members m there))
      (λ y stands of. let k = (since.fits y stands).within m (is.members m there) of in let a = since.began y stands in let b = k.soon in omega arith)
      (λ y stands of. let k = (since.fits y stands).within m (is.members m there) of in let a = soon y stands in let b = k.behind in omega arith)

  pub struck : (most : ℕ → ℕ) (from long : ℕ) (past : List ℕ) → ((t : ℕ) → IsIn past t → from ≤ t) → ((t : ℕ) → IsIn past t → t + 5 < from + long + widest ranking) →
      ((t len : ℕ) → within_stretch t len past ≤ most len) → length past ≤ most (long + widest ranking - 5)
  struck most from long past began soon few =
      let all = stretch-all from (long + widest ranking - 5) past (λ t there. (began t there, (let a = began t there in let b = soon t there in omega arith))) in
      let some = few from (long + widest ranking - 5) in
      omega arith

  module _ (most : ℕ → ℕ) (long free : ℕ) (left : List Release) (coming : List Transmission) (w : Window messages ranking most long free left coming) where
    pub hits-few : (t len : ℕ) → within_stretch t len w.past ≤ most len
    hits-few t len = let h = w.few t len in omega arith

    pub hits-coming : (t len : ℕ) → within_stretch t len (hit_times coming) ≤ most len
    hits-coming t len = let h = w.few t len in omega arith

    -- the bus is free within the long time
    pub free-long : free ≤ w.from + (blocking ranking + weighed (upper ranking) w.served + most (long + widest ranking - 5) * (widest ranking + 13))
    free-long =
        let spent = w.spent in
        let busy = busy-weighed (upper ranking) w.served w.since.members in
        let hits = struck most w.from long w.past w.hits_began w.in_long.hits hits-few in
        let cost = mul-le (length w.past) (widest ranking + 13) (most (long + widest ranking - 5)) (widest ranking + 13) hits (omega arith) in
        omega arith

    -- and within each delay
    pub free-delay : (q delay : ℕ) → delayed most ranking q delay ≤ delay → count ranking.message w.served ≤ q → free ≤ w.from + delay
    free-delay q delay enough few =
        let spent = w.spent in
        let soon = w.in_delay q delay enough few in
        let busy = busy-weighed (upper ranking) w.served w.since.members in
        let parts = weighed-cons ranking.message ranking.higher w.served in
        let own = mul-le (count ranking.message w.served) ranking.message.longest q ranking.message.longest few (omega arith) in
        let higher = weighed-load ranking.higher (delay + 1) w.served
        (λ m there. counted w.from (delay + 1) w.served w.since soon.offers m (stands-later ranking.message ranking.higher m there)) in
        let hits = struck most w.from (delay + 1) w.past w.hits_began soon.hits hits-few in
        let cost = mul-le (length w.past) (widest ranking + 13) (most (delay + 1 + widest ranking - 5)) (widest ranking + 13) hits (omega arith) in
        omega arith

    -- ---- a window that begins afresh

    abbrev pub fresh : (start : ℕ) → ((z : Release) → IsIn left z → IsUpper ranking z → start ≤ z.offered) → Window messages ranking most long start left coming
    fresh start later = record {
      from = start;
      served = [];
      past = [];
      since = record { began = λ y s. absurd (stands-none y s); members = λ y s. absurd (stands-none y s); fits = λ y s. absurd (stands-none y s); spaced = λ m s. tt };
      later = later;
      apart = λ y z s. absurd (stands-none y s);
      spent = omega (arith, busy-none);
      hits_began = λ t s. absurd (stands-none t s);
      few = λ t len. let h = hits-coming t len in omega arith;
      in_long = record { offers = λ y s. absurd (stands-none y s); hits = λ t s. absurd (stands-none t s) };
      in_delay = λ q d e f. record { offers = λ y s. absurd (stands-none y s); hits = λ t s. absurd (stands-none t s) };
    }

    abbrev pub moved : (start : ℕ) → start ≤ free → Window messages ranking most long start left coming
    moved start early = record {
      from = w.from;
      served = w.served;
      past = w.past;
      since = w.since;
      later = w.later;
      apart = w.apart;
      spent = (let h = w.spent in omega arith);
      hits_began = w.hits_began;
      few = w.few;
      in_long = w.in_long;
      in_delay = w.in_delay;
    }

    begin : (start : ℕ) → 0 < long → ((z : Release) → IsIn left z → IsUpper ranking z → start ≤ z.offered) → Ready messages ranking most long start left coming
    begin start some later = record { window = fresh start later; soon = omega arith; delay = λ q d e f. omega arith }

    -- when the long time is over, all that was offered before has been served
    served-all : busied most ranking long ≤ long → w.from + long ≤ free → IsLeft messages left → (z : Release) → IsIn left z → IsUpper ranking z → w.from + long ≤ z.offered
    served-all enough over lefts z there of =
        elim (cases_lt z.offered (w.from + long)) [
          | inl early ↦
              let more : List Release = z ∷ w.served in
              let since : AreSince messages ranking w.from more = record {
                began = λ y s. elim (stands-cases z w.served y s) [ inl e ↦ subst (λ (k : Release). w.from ≤ k.offered) e (w.later z there of) | inr k ↦ w.since.began y k ];
                members = λ y s. elim (stands-cases z w.served y s) [
                  | inl e ↦ subst (λ (k : Release). (m : Message) × IsIn (upper ranking) m × IsOf m k × (busy_time k.frame ≤ m.longest)) e
                      (of.0, of.1, of.2, ((lefts.fits z there).within of.0 (is.members of.0 of.1) of.2).short)
                  | inr k ↦ w.since.members y k
                ];
                fits = λ y s. elim (stands-cases z w.served y s) [ inl e ↦ subst (Fits messages) e (lefts.fits z there) | inr k ↦ w.since.fits y k ];
                spaced = λ m s. (λ y k a b. w.apart y z k there m s a b, w.since.spaced m s);
              } in
              let soon : (y : Release) → IsIn more y → y.offered < w.from + long =
              λ y s. elim (stands-cases z w.served y s) [ inl e ↦ subst (λ (k : Release). k.offered < w.from + long) e early | inr k ↦ w.in_long.offers y k ] in
              let all = weighed-load (upper ranking) long more (counted w.from long more since soon) in
              let one = weighed-of (upper ranking) of.0 z w.served of.1 of.2 in
              let short = ((lefts.fits z there).within of.0 (is.members of.0 of.1) of.2).short in
              let until = free-long in
              absurd (omega arith)
          | inr late ↦ late
        ]

    -- ---- such a frame starts next

    pub ready : busied most ranking long ≤ long → 0 < long → IsLeft messages left → (start : ℕ) → free ≤ start → ((z : Release) → IsIn left z → start ≤ max free z.offered) →
        Ready messages ranking most long start left coming
    ready enough some lefts start after soon =
        elim (cases_lt free start) [
          | inl idle ↦ begin start some (λ z there of. let h = soon z there in omega arith)
          | inr at ↦ elim (cases_lt free (w.from + long)) [
            | inl within ↦ record { window = moved start at; soon = omega arith; delay = λ q d e f. (let h = free-delay q d e f in omega arith) }
            | inr over ↦
                let all = weighed-load (upper ranking) long w.served (counted w.from long w.served w.since w.in_long.offers) in
                let until = free-long in
                begin start some (λ z there of. let h = served-all enough over lefts z there of in omega arith)
          ]
        ]
