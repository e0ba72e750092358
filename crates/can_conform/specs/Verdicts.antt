-- The verdict on a transcript: pass, or its first difference from the run. In one bit time a level comes before an
-- event, and an event before counters; the end is last.
use Rattle.std.specs.Prelude.{ℕ, ◌≡◌, ◌≢◌, ◌+◌, ◌<◌, length, Option, Some, IfSome, IsSomeAnd, slice_get}
use Rattle.can_frame.specs.declared.level.Level.{Level}
use Rattle.can_terms.specs.declared.event.Event.{Event}
use Rattle.can_conform.specs.declared.moment.Moment.{Moment}
use Rattle.can_terms.specs.declared.script.Script.{Script}
use Rattle.can_conform.specs.declared.judging.Difference.{Difference}
use Rattle.can_conform.specs.declared.judging.Difference.TheVariants as difference
use Rattle.can_conform.specs.declared.judging.Failure.{Failure}
use Rattle.can_conform.specs.declared.judging.Verdict.{Verdict}
use Rattle.can_conform.specs.declared.judging.Verdict.TheVariants.{Pass, Fail}
use Rattle.can_terms.specs.declared.transcript.Counters.{Counters}
use Rattle.can_terms.specs.declared.transcript.Ending.{Ending}
use Rattle.can_terms.specs.declared.transcript.Transcript.{Transcript}
use Rattle.can_conform.specs.Runs.{script_end, moment_at, standing_before}
use Rattle.can_conform.specs.Transcripts.{Agrees, AgreesAt, no_counts, item_at, told_before}

-- the level differs from the expected one: another level, one too many, or a missing one
pub record IsLevel (told : Transcript) (t : ℕ) (m : Moment) (one other : Option Level) : Type 0 where
  pub is_told : slice_get told.drove.items t ≡ one
  pub ought : m.drove ≡ other
  pub differs : one ≢ other

-- the event differs from the expected one: another event, one too many, or a missing one
pub record IsEvent (told : Transcript) (t : ℕ) (m : Moment) (one other : Option Event) : Type 0 where
  pub level : slice_get told.drove.items t ≡ m.drove
  pub is_told : IsSomeAnd told.events (λ events. item_at events.items t ≡ one)
  pub ought : m.event ≡ other
  pub differs : one ≢ other

-- the counters differ from the expected ones
pub record AreCounters (told : Transcript) (t : ℕ) (m : Moment) (one other : Counters) : Type 0 where
  pub level : slice_get told.drove.items t ≡ m.drove
  pub event : IfSome told.events (λ events. item_at events.items t ≡ m.event)
  pub is_told : IsSomeAnd told.counters (λ counters. told_before no_counts counters.items (t + 1) ≡ one)
  pub ought : m.counters ≡ other
  pub differs : one ≢ other

-- everything before agrees, and the end differs from the expected one
pub record IsEnd (s : Script) (told : Transcript) (t : ℕ) (one other : Ending) : Type 0 where
  pub behind : t ≡ length s.tester.items
  pub each : (u : ℕ) → AgreesAt told u (moment_at s u)
  pub is_told : told.end ≡ Some one
  pub ought : script_end s ≡ other
  pub differs : one ≢ other

-- the difference of bit time t, or that of the end
abbrev pub IsDifference : Script → Transcript → ℕ → Difference → Type 0
IsDifference s told t (difference.Level one other) = IsLevel told t (moment_at s t) one other
IsDifference s told t (difference.Event one other) = IsEvent told t (moment_at s t) one other
IsDifference s told t (difference.Counters one other) = AreCounters told t (moment_at s t) one other
IsDifference s told t (difference.End one other) = IsEnd s told t one other

-- the first difference, and the state of the reference before it
pub record IsFirst (s : Script) (told : Transcript) (f : Failure) : Type 0 where
  pub before : (t : ℕ) → t < f.time → AgreesAt told t (moment_at s t)
  pub here : IsDifference s told f.time f.difference
  pub standing : f.standing ≡ standing_before s f.time

-- the verdict on a transcript
abbrev pub IsVerdict : Script → Transcript → Verdict → Type 0
IsVerdict s told Pass = Agrees s told
IsVerdict s told (Fail failure) = IsFirst s told failure
