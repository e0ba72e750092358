-- The worst case of a message, without hits: frames are offered so that one of the message's own has the longest response time.
-- (docs/PLANNING.md, "The worst case")
--
-- The messages are in the order of priority. A message and the higher-priority ones are a priority level. All frames of the level
-- are offered together, the full jitter after their release, and then as often as their periods allow. A lower-priority frame is
-- offered one bit time earlier, and blocks them.
use Rattle.std.specs.Prelude.{ℕ, ◌≡◌, ◌⊎◌, ◌+◌, ◌-◌, ◌*◌, ◌<◌, ◌≤◌, min, List, [], ◌∷◌, ◌++◌, drop, length, map, take, Option, Some, None, MatchOption}
use Rattle.std.specs.List.{All, Contains, range_with_len, sum_by}
use Rattle.can_frame.specs.Parts.{Parts}
use Rattle.can_wire.specs.Wire.{wire}
use Rattle.can_longest.specs.Longest.{IsFrameOf, IsLongestWire}
use Rattle.can_plan.specs.declared.message.Message.{Message}
use Rattle.can_plan.specs.Analysis.{IsLeast, arrivals}
use Rattle.document_values.specs.Values.{ArePaired}
use Rattle.can_plan_text.specs.declared.plan.Planned.{Planned}
use Rattle.can_plan_text.specs.declared.worst_fault.WorstFault.{WorstFault}
use Rattle.can_plan_text.specs.declared.worst_fault.WorstFault.TheVariants.{TooLong, Memory}
use Rattle.can_plan_text.specs.declared.case.Sequence.{Sequence}
use Rattle.can_plan_text.specs.declared.case.WorstCase.{WorstCase}

-- ---- times

-- the bit time before which the frames of the level are offered together
abbrev pub start : ℕ
start = 1

-- when the frame with this number, counted from 0, is offered: this many periods after the first, less the jitter of the first,
-- but not before the first
abbrev pub offer_time : Message → ℕ → ℕ
offer_time m number = start + (number * m.period - m.jitter)

-- when the frames are offered that arrive within `long` bit times
abbrev pub offer_times : ℕ → Message → List ℕ
offer_times long m = map (offer_time m) (range_with_len 0 (arrivals m long))

-- ---- the busy period

-- how long the frames of a level that arrive within `long` bit times keep the bus
abbrev pub load_of : List Planned → ℕ → ℕ
load_of level long = sum_by (λ p. arrivals p.message long * p.message.longest) level

-- one of these messages whose frames keep the bus the longest, if there are any
abbrev pub IsBlocker : List Planned → Option Planned → Type 0
IsBlocker lower blocker = MatchOption blocker (lower ≡ []) (λ b. Contains lower b × All (λ p. p.message.longest ≤ b.message.longest) lower)

-- how much of the blocking frame is left one bit time after its start
abbrev pub blocking_of : Option Planned → ℕ
blocking_of None = 0
blocking_of (Some b) = b.message.longest - 1

-- within `long` bit times, above 0, what is left of the blocking frame and all frames of the level that arrive have been sent
abbrev pub IsBusyPeriod : ℕ → List Planned → ℕ → Type 0
IsBusyPeriod blocking level long = (0 < long) × (blocking + load_of level long ≤ long)

-- the longest busy period: a scenario has at most a million bit times, and one of them is before the level is offered
abbrev pub most_long : ℕ
most_long = 999999

-- ---- frames

-- the DLC of the message's frames, at most 15
abbrev pub frame_dlc : Planned → ℕ
frame_dlc p = min p.dlc 15

-- a frame of the message with data that make it the longest
pub record IsLongestFrame (p : Planned) (f : Parts) : Type 0 where
  pub same : IsFrameOf p.head.id p.head.remote (frame_dlc p) f
  pub longest : IsLongestWire p.head.id p.head.remote (frame_dlc p) (length (wire f))

-- the longest frame of the message, offered as often as allowed within `long` bit times
pub record IsOften (long : ℕ) (p : Planned) (s : Sequence) : Type 0 where
  pub frame : IsLongestFrame p s.frame
  pub times : s.times.items ≡ offer_times long p.message

-- the longest frame of the message, offered once, when the run begins
pub record IsOnce (p : Planned) (s : Sequence) : Type 0 where
  pub frame : IsLongestFrame p s.frame
  pub times : s.times.items ≡ 0 ∷ []

-- the frame that blocks a level, if there is one
abbrev pub AreOfBlocker : Option Planned → List Sequence → Type 0
AreOfBlocker None once = once ≡ []
AreOfBlocker (Some b) once = (s : Sequence) × IsOnce b s × (once ≡ s ∷ [])

-- the frames of a level, and then the one that blocks it
pub record AreSequences (long : ℕ) (level : List Planned) (blocker : Option Planned) (sequences : List Sequence) : Type 0 where
  pub often : List Sequence
  pub once : List Sequence
  pub of_level : ArePaired (IsOften long) level often
  pub of_blocker : AreOfBlocker blocker once
  pub all : sequences ≡ often ++ once

-- ---- the whole

-- the worst case of the message at a place
pub record IsWorstCase (planned : List Planned) (place : ℕ) (w : WorstCase) : Type 0 where
  pub blocker : Option Planned
  pub behind : IsBlocker (drop (place + 1) planned) blocker
  pub busy : IsLeast (IsBusyPeriod (blocking_of blocker) (take (place + 1) planned)) w.long
  pub sequences : AreSequences w.long (take (place + 1) planned) blocker w.sequences.items

-- no scenario is long enough for the worst case of the message at a place
pub record IsTooLong (planned : List Planned) (place : ℕ) : Type 0 where
  pub blocker : Option Planned
  pub behind : IsBlocker (drop (place + 1) planned) blocker
  pub above : (n : ℕ) → IsBusyPeriod (blocking_of blocker) (take (place + 1) planned) n → most_long < n

-- ---- refusals

-- no scenario is long enough, or memory ran out
abbrev pub IsWorstFault : WorstFault → Type 0
IsWorstFault fault = (fault ≡ TooLong) ⊎ (fault ≡ Memory)
