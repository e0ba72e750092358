-- Transcripts: what a controller did in a case, by bit time, and the transcript of a run.
use Rattle.std.specs.Prelude.{ℕ, zero, suc, ◌≡◌, ◌+◌, ◌<◌, ◌^◌, ◌-◌, length, ◌==◌, nat_lt, Bool, ◌&&◌, if◌then◌else◌, List, [], ◌∷◌, ◌++◌, Option, Some, None, IfSome, IsSomeAnd, option_to_list, slice_get}
use Rattle.can_frame.specs.declared.level.Level.{Level}
use Rattle.can_terms.specs.declared.event.Event.{Event}
use Rattle.can_conform.specs.declared.moment.Moment.{Moment}
use Rattle.can_terms.specs.declared.script.Script.{Script}
use Rattle.can_terms.specs.declared.timed.Timed.{Timed}
use Rattle.can_terms.specs.declared.transcript.Counters.{Counters}
use Rattle.can_terms.specs.declared.transcript.Transcript.{Transcript}
use Rattle.can_terms.specs.Cases.{AreRising}
use Rattle.can_conform.specs.Runs.{before, counters_of, script_end, moment_at}

-- ---- lists of elements with their times

-- the element of time t, if there is one
abbrev pub item_at : {A : Type 0} → List (Timed A) → ℕ → Option A
item_at [] t = None
item_at (x ∷ xs) t = if x.time == t then Some x.told else item_at xs t

-- the last element before time t; `held` if there is none
abbrev pub told_before : {A : Type 0} → A → List (Timed A) → ℕ → A
told_before held [] t = held
told_before held (x ∷ xs) t = if nat_lt x.time t then told_before x.told xs t else held

-- the list of the element of time t, if there is one
abbrev pub at_time : {A : Type 0} → ℕ → Option A → List (Timed A)
at_time t None = []
at_time t (Some x) = record { time = t; told = x } ∷ []

-- a new controller's counters
abbrev pub no_counts : Counters
no_counts = record { transmit = 0; receive = 0 }

-- ---- a transcript agrees with the run

-- what it lists for bit time t is this: the level; the event, if events are listed; the counters after it, if counters
-- are listed
pub record AgreesAt (told : Transcript) (t : ℕ) (m : Moment) : Type 0 where
  pub level : slice_get told.drove.items t ≡ m.drove
  pub event : IfSome told.events (λ events. item_at events.items t ≡ m.event)
  pub counters : IfSome told.counters (λ counters. told_before no_counts counters.items (t + 1) ≡ m.counters)

-- all that it lists is that of the run
pub record Agrees (s : Script) (told : Transcript) : Type 0 where
  pub each : (t : ℕ) → AgreesAt told t (moment_at s t)
  pub end : IfSome told.end (λ end. end ≡ script_end s)

-- ---- the transcript of the run

-- both counters are equal
abbrev pub same_counters : Counters → Counters → Bool
same_counters c d = (c.transmit == d.transmit) && (c.receive == d.receive)

-- the counters after bit time t, if it changed one
abbrev pub changed_in : Script → ℕ → Option Counters
changed_in s t =
    if same_counters (counters_of (before s (t + 1))) (counters_of (before s t)) then None
    else Some (counters_of (before s (t + 1)))

-- the list has exactly these elements, with strictly rising times
pub record Tells {A : Type 0} (at : ℕ → Option A) (xs : List (Timed A)) : Type 0 where
  pub rising : AreRising xs
  pub each : (t : ℕ) → item_at xs t ≡ at t

-- the levels, events and changes of a counter of the run
pub record TellsRun (s : Script) (drove : List Level)
    (told : List (Timed Event)) (changed : List (Timed Counters)) : Type 0 where
  pub levels : (t : ℕ) → slice_get drove t ≡ (moment_at s t).drove
  pub events : Tells (λ t. (moment_at s t).event) told
  pub changes : Tells (changed_in s) changed

-- a transcript that has all of them, and the end
pub record IsTranscript (s : Script) (told : Transcript) : Type 0 where
  pub levels : (t : ℕ) → slice_get told.drove.items t ≡ (moment_at s t).drove
  pub events : IsSomeAnd told.events (λ events. Tells (λ t. (moment_at s t).event) events.items)
  pub counters : IsSomeAnd told.counters (λ counters. Tells (changed_in s) counters.items)
  pub end : told.end ≡ Some (script_end s)

-- ---- the transcript of the run, bit time by bit time

-- the elements before bit time n
unfoldable pub told_upto : {A : Type 0} → (ℕ → Option A) → ℕ → List (Timed A)
told_upto at zero = []
told_upto at (suc n) = told_upto at n ++ at_time n (at n)

-- the levels that are driven before bit time n
unfoldable pub driven_upto : Script → ℕ → List Level
driven_upto s zero = []
driven_upto s (suc n) = driven_upto s n ++ option_to_list (moment_at s n).drove

-- the levels of the run, its events, and its changes of a counter
abbrev pub levels_of : Script → List Level
levels_of s = driven_upto s (length s.tester.items)

abbrev pub events_of : Script → List (Timed Event)
events_of s = told_upto (λ t. (moment_at s t).event) (length s.tester.items)

abbrev pub changes_of : Script → List (Timed Counters)
changes_of s = told_upto (changed_in s) (length s.tester.items)
