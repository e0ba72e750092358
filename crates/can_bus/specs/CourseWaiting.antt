-- How long an offered frame waits until it is sent on a network, in terms of a course. (docs/BUS.md, "How long a frame waits on a
-- network")
use Rattle.std.specs.Prelude.{ℕ, ◌≡◌, ◌+◌, ◌-◌, ◌≤◌, ◌<◌, nat_le, nat_lt, not, Bool, true, false, ◌&&◌, if◌then◌else◌, List, [], ◌∷◌, ◌++◌, filter, length, slice_get, take, Option, Some, None}
use Rattle.std.specs.List.{sum_by}
use Rattle.can_frame.specs.Arbitration.{arbitration_field}
use Rattle.can_frame.specs.Parts.{Parts}
use Rattle.can_node.specs.Ports.{goes_before, same_field}
use Rattle.can_terms.specs.declared.hit.Hit.{Hit}
use Rattle.can_bus.specs.Course.{IsCourse, Transmission, keeping, left_by}
use Rattle.can_bus.specs.Quiet.{span}
use Rattle.can_bus.specs.Timed.{TimedParts, frames_of}

-- the offers of each arbitration field are in the order of their times
abbrev pub AreInTime : List TimedParts → Type 0
AreInTime offers = (m n : ℕ) (x y : TimedParts) → m < n → slice_get offers m ≡ Some x → slice_get offers n ≡ Some y →
    arbitration_field x.frame ≡ arbitration_field y.frame → x.time ≤ y.time

-- how long these attempts keep the bus, one after another
abbrev pub kept_times : List Transmission → ℕ
kept_times course = sum_by (λ s. keeping s.frame s.hit) course

-- The rest of the attempt on the bus at this time; 0 if the bus is free. An attempt that starts at this time is not on the bus yet.
abbrev pub left_on : ℕ → List Transmission → ℕ
left_on t [] = 0
left_on t (s ∷ course) =
    let over = s.time + keeping s.frame s.hit in
    if nat_lt s.time t && nat_lt t over then over - t else left_on t course

-- the attempts that start at the first time or later, and before the second
abbrev pub attempts_between : ℕ → ℕ → List Transmission → List Transmission
attempts_between from until course = filter (λ s. nat_le from s.time && nat_lt s.time until) course

-- a level of it was hit
abbrev pub was_hit : Option ℕ → Bool
was_hit None = false
was_hit (Some offset) = true

-- the attempts that are hit; then those that send their frames
abbrev pub hit_attempts : List Transmission → List Transmission
hit_attempts course = filter (λ s. was_hit s.hit) course

abbrev pub sent_attempts : List Transmission → List Transmission
sent_attempts course = filter (λ s. not (was_hit s.hit)) course

-- the offers of one arbitration field; then the attempts that send a frame of it
abbrev pub of_field : Parts → List TimedParts → List TimedParts
of_field f offers = filter (λ x. same_field f x.frame) offers

abbrev pub sends_of : Parts → List Transmission → List Transmission
sends_of f course = filter (λ s. same_field f s.frame && not (was_hit s.hit)) course

-- The attempt s sends the offer at this place: if n offers of its field come before it in the list, n attempts that send a frame of the
-- field come before s.
pub record IsSentBy (offers : List TimedParts) (course : List Transmission) (place : ℕ) (offer : TimedParts)
    (s : Transmission) : Type 0 where
  pub is_offer : slice_get offers place ≡ Some offer
  pub is_attempt : slice_get (sends_of offer.frame course) (length (of_field offer.frame (take place offers))) ≡ Some s

-- the offers left after these attempts
abbrev pub left_behind : List TimedParts → List Transmission → List TimedParts
left_behind offers [] = offers
left_behind offers (s ∷ course) = left_behind (left_by s.frame s.hit offers) course

-- the offers made before this time that have higher priority than f
abbrev pub ahead_of : Parts → ℕ → List TimedParts → List TimedParts
ahead_of f t offers = filter (λ x. goes_before x.frame f && nat_lt x.time t) offers

-- how long these frames keep the bus, one after another
abbrev pub busy_times : List TimedParts → ℕ
busy_times timed = span (frames_of timed)

-- The offers that go before the one at this place, which starts at this time. They are left when it is made, and have higher priority and
-- are made before it starts, or are of its arbitration field and before it in the list.
abbrev pub going_before : List TimedParts → List Transmission → ℕ → TimedParts → ℕ → List TimedParts
going_before offers course place offer start =
    let begun = attempts_between 0 offer.time course in
    ahead_of offer.frame start (left_behind offers begun) ++ of_field offer.frame (left_behind (take place offers) begun)

-- what is claimed of each offer of a course, if the offers of each field are in order of time, and of the attempt that sends it
abbrev pub OnWait : (List Hit → List TimedParts → List Transmission → ℕ → TimedParts → Transmission → Type 0) → Type 0
OnWait Claim =
    (hits : List Hit) (offers : List TimedParts) (course : List Transmission) → IsCourse hits 0 0 offers course
    → AreInTime offers →
    (place : ℕ) (offer : TimedParts) (s : Transmission) → IsSentBy offers course place offer s → Claim hits offers course place offer s
