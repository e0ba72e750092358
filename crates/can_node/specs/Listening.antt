-- What a port may claim of the levels that it has sampled, in terms of levels, encoded frames and events alone. (docs/ACCESS.md, "Ports")
use Rattle.std.specs.Prelude.{ℕ, ◌≡◌, ◌+◌, ◌<◌, ◌≤◌, Bool, true, false, List, [], ◌∷◌, ◌++◌, take, drop, replicate, Option, Some, None, slice_get, ⊤}
use Rattle.can_frame.specs.declared.level.Level.{Level}
use Rattle.can_frame.specs.declared.level.Level.TheVariants.{Recessive}
use Rattle.can_frame.specs.Parts.{Parts}
use Rattle.can_wire.specs.Wire.{wire}
use Rattle.can_wire.specs.Heard.{HeardParts, Spells}
use Rattle.can_terms.specs.declared.event.Event.{Event}
use Rattle.can_terms.specs.declared.event.Event.TheVariants.{Sent, Received, Lost, Error, Overload, WentOff, Recovered}

-- the levels up to and including time t end with this stretch
abbrev pub EndsAt : List Level → ℕ → List Level → Type 0
EndsAt levels t stretch = (before : List Level) × (take (t + 1) levels ≡ before ++ stretch)

-- a frame that was received is in the levels: an encoding of it as received, without its last level, ends at time t (Bosch CAN 2.0 part
-- B, section 5: a receiver decides with the last but one level of the end of frame)
pub record WasSpelled (levels : List Level) (t : ℕ) (f : Parts) : Type 0 where
  pub h : HeardParts
  pub spelled : List Level
  pub last : Level
  pub spells : Spells h (spelled ++ last ∷ [])
  pub holds : h.frame ≡ f
  pub ends : EndsAt levels t spelled

-- what the event of time t claims of the levels
abbrev pub IsTrueAt : List Level → ℕ → Option Event → Type 0
IsTrueAt levels t (Some (Received f)) = WasSpelled levels t f
IsTrueAt levels t (Some (Sent f)) = EndsAt levels t (wire f)
IsTrueAt levels t (Some Lost) = ⊤
IsTrueAt levels t (Some (Error kind)) = ⊤
IsTrueAt levels t (Some Overload) = ⊤
IsTrueAt levels t (Some WentOff) = ⊤
IsTrueAt levels t (Some Recovered) = ⊤
IsTrueAt levels t None = ⊤

-- each frame that was received or sent is in the levels
abbrev pub Took : List Level → List (Option Event) → Type 0
Took levels events = (t : ℕ) (event : Option Event) → slice_get events t ≡ Some event → IsTrueAt levels t event

-- the events after which a controller waits until the bus is at rest: an error, an overload flag, bus off
abbrev pub is_upset : Option Event → Bool
is_upset (Some (Error kind)) = true
is_upset (Some Overload) = true
is_upset (Some WentOff) = true
is_upset (Some (Sent f)) = false
is_upset (Some (Received f)) = false
is_upset (Some Lost) = false
is_upset (Some Recovered) = false
is_upset None = false

-- the events of a frame: sent, received, arbitration lost
abbrev pub is_of_frame : Option Event → Bool
is_of_frame (Some (Sent f)) = true
is_of_frame (Some (Received f)) = true
is_of_frame (Some Lost) = true
is_of_frame (Some (Error kind)) = false
is_of_frame (Some Overload) = false
is_of_frame (Some WentOff) = false
is_of_frame (Some Recovered) = false
is_of_frame None = false

-- after time s and before time t there are ten recessive levels in a row: eight of a delimiter and two of intermission (Bosch CAN 2.0
-- part B, sections 3.2.3, 3.2.4 and 3.2.5)
abbrev pub RestsBetween : List Level → ℕ → ℕ → Type 0
RestsBetween levels s t = (n : ℕ) × (s < n) × (n + 10 ≤ t) × (take 10 (drop n levels) ≡ replicate 10 Recessive)

-- between an error, an overload flag or bus off and the next event of a frame the bus was at rest for ten levels
abbrev pub Rested : List Level → List (Option Event) → Type 0
Rested levels events =
    (s t : ℕ) (upset told : Option Event) → s < t
    → slice_get events s ≡ Some upset → slice_get events t ≡ Some told
    → is_upset upset ≡ true → is_of_frame told ≡ true
    → RestsBetween levels s t
