-- Messages: frames of one arbitration field that are released again and again; and what it means that releases and hits keep to the
-- messages and to the error model. (docs/PLANNING.md, "What a network keeps to")
use Rattle.std.specs.Prelude.{ℕ, ◌≡◌, ◌+◌, ◌/◌, ◌<◌, ◌≤◌, ◌==◌, nat_le, nat_lt, ◌&&◌, if◌then◌else◌, List, [], ◌∷◌, Option, Some, None, slice_get}
use Rattle.std.specs.List.{count_by}
use Rattle.can_frame.specs.Parts.{Parts}
use Rattle.can_frame.specs.Arbitration.{arbitration_field, Before}
use Rattle.can_bus.specs.Course.{Transmission}
use Rattle.can_bus.specs.Quiet.{busy_time}
use Rattle.can_bus.specs.Timed.{TimedParts}
use Rattle.can_plan.specs.declared.message.Message.{Message}
use Rattle.can_plan.specs.declared.message.HitRate.{HitRate}

-- it is in the list
abbrev pub IsIn : {A : Type 0} → List A → A → Type 0
IsIn {A} xs x = (n : ℕ) × (slice_get xs n ≡ Some x)

-- Messages.

-- each has a period above 0
abbrev pub ArePeriodic : List Message → Type 0
ArePeriodic messages = (n : ℕ) (m : Message) → slice_get messages n ≡ Some m → 0 < m.period

-- the messages of a network in priority order, no two of the same arbitration field, each with a period and a longest time above 0
pub record IsMessageSet (messages : List Message) : Type 0 where
  pub ascending : (i j : ℕ) (a b : Message) → i < j → slice_get messages i ≡ Some a → slice_get messages j ≡ Some b → Before a.field b.field
  pub periodic : ArePeriodic messages
  pub sized : (m : Message) → IsIn messages m → 0 < m.longest

-- Releases.

-- a frame: when it is released (the application has it), and when it is offered to its port
pub record Release : Type 0 where
  pub released : ℕ
  pub offered : ℕ
  pub frame : Parts

abbrev pub offer_of : Release → TimedParts
offer_of r = record { time = r.offered; frame = r.frame }

-- it is a frame of the message
abbrev pub IsOf : Message → Release → Type 0
IsOf m r = arbitration_field r.frame ≡ m.field

-- it keeps to the message: it keeps the bus no longer than `longest`, and is offered within the jitter
pub record IsWithin (m : Message) (r : Release) : Type 0 where
  pub short : busy_time r.frame ≤ m.longest
  pub behind : r.released ≤ r.offered
  pub soon : r.offered ≤ r.released + m.jitter

-- Releases, in the order in which they are offered, keep to the messages.
pub record KeepTo (messages : List Message) (releases : List Release) : Type 0 where
  -- each is of a message
  pub known : (r : Release) → IsIn releases r → (m : Message) × IsIn messages m × IsOf m r
  pub within : (r : Release) (m : Message) → IsIn releases r → IsIn messages m → IsOf m r → IsWithin m r
  -- two of one message are at least a period apart
  pub apart : (i j : ℕ) (a b : Release) (m : Message) → i < j → slice_get releases i ≡ Some a → slice_get releases j ≡ Some b →
      IsIn messages m → IsOf m a → IsOf m b → a.released + m.period ≤ b.released

-- Hits.

-- the times of the hits of a course
abbrev pub with_hit : ℕ → Option ℕ → List ℕ → List ℕ
with_hit time None times = times
with_hit time (Some offset) times = (time + offset) ∷ times

abbrev pub hit_times : List Transmission → List ℕ
hit_times [] = []
hit_times (s ∷ course) = with_hit s.time s.hit (hit_times course)

-- how many of these times are among `long` bit times, from `from` on
abbrev pub within_stretch : ℕ → ℕ → List ℕ → ℕ
within_stretch from long times = count_by (λ t. nat_le from t && nat_lt t (from + long)) times

-- any number of consecutive bit times has at most this many hits
abbrev pub AreHitAtMost : (ℕ → ℕ) → List Transmission → Type 0
AreHitAtMost most course = (from long : ℕ) → within_stretch from long (hit_times course) ≤ most long

-- how many hits the error model allows in this many bit times: its burst, and one more for each spacing that fits into them
abbrev pub most_hits : HitRate → ℕ → ℕ
most_hits rate long = rate.burst + (if rate.spacing == 0 then 0 else long / rate.spacing)
