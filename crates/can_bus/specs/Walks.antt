-- Walks along hits and offers in their order.
use Rattle.std.specs.Prelude.{ℕ, ◌≡◌, ◌+◌, ◌-◌, ◌^◌, nat_lt, if◌then◌else◌, ◌<◌, ◌≤◌, ◌==◌, Bool, true, false, ◌&&◌, List, Option, Some, None, slice_get}
use Rattle.can_terms.specs.declared.hit.Hit.{Hit}
use Rattle.can_terms.specs.declared.hit.Hit.TheVariants.{At, In, View}
use Rattle.can_bus.specs.declared.moment.Attempt.{Attempt}
use Rattle.can_bus.specs.declared.offer.Offer.{Offer}
use Rattle.can_bus.specs.declared.call.Call.{Call}
use Rattle.can_bus.specs.declared.cursor.Cursor.{Cursor}
use Rattle.can_terms.specs.Hits.{is_above}
use Rattle.std.specs.List.{list_any}
use Rattle.can_bus.specs.Run.{BusState, CallState, hits_view, hits_wire}

-- the two hits are equal
abbrev pub is_hit : Hit → Hit → Bool
is_hit (At time) (At t) = t == time
is_hit (At time) (In number offset) = false
is_hit (At time) (View t port) = false
is_hit (In attempt offset) (At t) = false
is_hit (In attempt offset) (In number o) = (attempt == number) && (offset == o)
is_hit (In attempt offset) (View t port) = false
is_hit (View time node) (At t) = false
is_hit (View time node) (In number offset) = false
is_hit (View time node) (View t port) = (t == time) && (port == node)

-- each earlier hit is below each later one
abbrev pub HitsRise : List Hit → Type 0
HitsRise hits = (m n : ℕ) (a b : Hit) → m < n → slice_get hits m ≡ Some a → slice_get hits n ≡ Some b → is_above b a ≡ true

-- each hit before this place is below this one
abbrev pub AreBelow : List Hit → ℕ → Hit → Type 0
AreBelow hits place hit = (n : ℕ) (before : Hit) → n < place → slice_get hits n ≡ Some before → is_above hit before ≡ true

-- an attempt of a call is within the bit times that have passed
abbrev pub IsPassed : Option Attempt → ℕ → Type 0
IsPassed None time = Unit {0}
IsPassed (Some a) time = a.number + a.offset < time

-- the least hit of an attempt that may fall in this bit time; then in the next
abbrev pub in_now : Option Attempt → Hit
in_now None = In 0 0
in_now (Some a) = In a.number a.offset

abbrev pub in_next : Option Attempt → Hit
in_next None = In 0 0
in_next (Some a) = In a.number (a.offset + 1)

-- the hits that have been passed are before the next bit time
pub record IsCall (hits : List Hit) (call : Call) : Type 0 where
  pub at : AreBelow hits call.at.place (At call.time)
  pub within : AreBelow hits call.within.place (in_next call.latest)
  pub view : AreBelow hits call.view.place (View call.time 0)
  pub passed : IsPassed call.latest call.time

-- a call before its first bit time
abbrev pub first_place : Cursor
first_place = record { place = 0 }

abbrev pub first_call : Call
first_call = record { time = 0; latest = None; at = first_place; within = first_place; view = first_place }

-- the walk along the offers has reached this time: each before this place is earlier, and no other is
pub record IsReached (offers : List Offer) (place time : ℕ) : Type 0 where
  pub passed : (n : ℕ) (offer : Offer) → n < place → slice_get offers n ≡ Some offer → offer.time < time
  pub ahead : (n : ℕ) (offer : Offer) → place ≤ n → slice_get offers n ≡ Some offer → time ≤ offer.time

-- the progress of a call on this bus
abbrev pub call_on : BusState → Call → CallState
call_on bus call = record { bus = bus; time = call.time; latest = call.latest }

-- the attempt n bit times later
abbrev pub aged_by : ℕ → Option Attempt → Option Attempt
aged_by n None = None
aged_by n (Some a) = Some (record { number = a.number; offset = a.offset + n })

-- later than any bit time of a call
abbrev pub for_ever : ℕ
for_ever = 2 ^ 64 - 1

-- how many bit times pass from this time on before an `At` inverts the wired level, if this is the next hit of a walk along those that
-- are not earlier
abbrev pub until_at : ℕ → Option Hit → ℕ
until_at time None = for_ever
until_at time (Some (At t)) = t - time
until_at time (Some (In number offset)) = for_ever
until_at time (Some (View t node)) = for_ever

-- how many bit times pass before the latest attempt is hit, if no later one begins; 0 if the walk has yet to pass a hit
abbrev pub until_in : Option Attempt → Option Hit → ℕ
until_in None next = for_ever
until_in (Some a) None = for_ever
until_in (Some a) (Some (At t)) = 0
until_in (Some a) (Some (In number offset)) =
    if nat_lt a.number number then for_ever else if nat_lt number a.number then 0 else offset - (a.offset + 1)
until_in (Some a) (Some (View t node)) = for_ever

-- how many bit times pass before a hit on what a port samples
abbrev pub until_view : ℕ → Option Hit → ℕ
until_view time None = for_ever
until_view time (Some (At t)) = 0
until_view time (Some (In number offset)) = 0
until_view time (Some (View t node)) = t - time

-- a call in which the bus has been at rest for n bit times
abbrev pub rested : ℕ → CallState → CallState
rested n c = record { bus = c.bus; time = c.time + n; latest = aged_by n c.latest }

-- no hit falls in n bit times from this time on, in the first of which this attempt begins
pub record IsFreeFrom (hits : List Hit) (time : ℕ) (first : Option Attempt) (n : ℕ) : Type 0 where
  pub wire : (o : ℕ) → o < n → list_any (hits_wire (time + o) (aged_by o first)) hits ≡ false
  pub view : (o node : ℕ) → o < n → list_any (hits_view (time + o) node) hits ≡ false
