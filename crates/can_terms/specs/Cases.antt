-- Test cases and transcripts: what a controller sees beside the lower tester, and when a transcript's times rise.
-- (docs/CONFORMANCE.md)
use Rattle.std.specs.Prelude.{ℕ, ◌≡◌, ◌<◌, ◌^◌, ◌-◌, length, List, Some, IfSome, slice_get}
use Rattle.can_frame.specs.declared.level.Level.{Level}
use Rattle.can_frame.specs.declared.level.Level.TheVariants.{Dominant, Recessive}
use Rattle.can_terms.specs.declared.script.TesterLevel.{TesterLevel}
use Rattle.can_terms.specs.declared.script.TesterLevel.TheVariants as tester
use Rattle.can_terms.specs.declared.timed.Timed.{Timed}
use Rattle.can_terms.specs.declared.transcript.Transcript.{Transcript}

-- the level that a controller sees if it drives the second one: the bus is dominant if either of the two drives
-- dominant; in a forced bit time the controller sees recessive, whatever it drives (Bosch CAN 2.0 part B, section 2)
abbrev pub seen_by : TesterLevel → Level → Level
seen_by tester.Dominant drives = Dominant
seen_by tester.Recessive drives = drives
seen_by tester.Forced drives = Recessive

-- their times rise strictly
abbrev pub AreRising : {A : Type 0} → List (Timed A) → Type 0
AreRising {A} xs =
    (m n : ℕ) (x y : Timed A) → m < n
    → slice_get xs m ≡ Some x → slice_get xs n ≡ Some y → x.time < y.time

-- all of them come before time t
abbrev pub EndBefore : {A : Type 0} → List (Timed A) → ℕ → Type 0
EndBefore {A} xs t = (n : ℕ) (x : Timed A) → slice_get xs n ≡ Some x → x.time < t

-- what the judge requires of a transcript: its times rise, and times and number of levels are below 2^32 - 1
pub record IsTold (told : Transcript) : Type 0 where
  pub levels : length told.drove.items < 2 ^ 32 - 1
  pub events : IfSome told.events (λ events. AreRising events.items)
  pub counters : IfSome told.counters (λ counters. AreRising counters.items)
  pub events_end : IfSome told.events (λ events. EndBefore events.items (2 ^ 32 - 1))
  pub counters_end : IfSome told.counters (λ counters. EndBefore counters.items (2 ^ 32 - 1))
