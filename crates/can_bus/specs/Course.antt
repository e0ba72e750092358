-- The course: the sequence of attempts on a bus with offers at run time and hits. It says which frame each attempt sends, when it starts,
-- and where it is hit. It depends on no port, phase or counter. (docs/BUS.md, "The course"; Bosch CAN 2.0 part B, sections 2, 3.2.1,
-- 3.2.3, 3.2.5 and 6)
use Rattle.std.specs.Prelude.{ℕ, ◌≡◌, ◌+◌, ◌-◌, ◌≤◌, zero, suc, max, nat_lt, nat_le, ◌&&◌, if◌then◌else◌, ◌⊎◌, List, [], ◌∷◌, filter, length, slice_index_or, Option, Some, None}
use Rattle.can_frame.specs.declared.level.Level.{Level}
use Rattle.can_frame.specs.declared.level.Level.TheVariants.{Recessive}
use Rattle.can_frame.specs.Parts.{Parts}
use Rattle.can_wire.specs.Wire.{wire}
use Rattle.can_node.specs.Ports.{waiting}
use Rattle.can_node.specs.Waiting.{IsWaiting}
use Rattle.can_terms.specs.declared.hit.Hit.{Hit}
use Rattle.can_bus.specs.Quiet.{holds, busy_time}
use Rattle.can_bus.specs.Attempts.{IsInWindow, Tally, hit_of, tallied}
use Rattle.can_bus.specs.RepairedLine.{attempt_levels, lateness}
use Rattle.can_bus.specs.Timed.{TimedParts, Lists, earliest, offered_by, without_offer}

-- an attempt to send a frame: its start, its frame, and the level that is hit, if one is
pub record Transmission : Type 0 where
  pub time : ℕ
  pub frame : Parts
  pub hit : Option ℕ

-- How long an attempt keeps the bus if this level is hit: the levels before it, the level itself, the error flags (six levels, and as
-- many more as the receivers' error comes later), and eleven levels of delimiter and intermission. (3.2.3, 3.2.5)
abbrev pub hit_time : Parts → ℕ → ℕ
hit_time f offset = offset + 18 + lateness f offset

-- how long an attempt keeps the bus, hit or not
abbrev pub keeping : Parts → Option ℕ → ℕ
keeping f None = busy_time f
keeping f (Some offset) = hit_time f offset

-- the offers left after an attempt: without the first of its arbitration field; all of them if it is hit, because its frame is sent again
-- (6)
abbrev pub left_by : Parts → Option ℕ → List TimedParts → List TimedParts
left_by f None offers = without_offer f offers
left_by f (Some offset) offers = offers

-- a hit, if there is one, is in the window of the frame
abbrev pub FallsInWindow : Parts → Option ℕ → Type 0
FallsInWindow f None = Unit {0}
FallsInWindow f (Some offset) = IsInWindow f offset

-- The next attempt sends f at this time; these offers are left, and the bus is free from time `free` on.
pub record IsNext (free : ℕ) (left : List TimedParts) (time : ℕ) (f : Parts) : Type 0 where
  -- the bus is free by then
  pub is_free : free ≤ time
  -- it starts no later than when the bus is free and a frame that is left has been offered (3.2.5)
  pub soon : (x : TimedParts) → Lists left x → time ≤ max free x.time
  -- of the frames offered by then it sends the one with the highest priority; of one arbitration field, the first (2, 3.2.1)
  pub waits : IsWaiting (offered_by time left) f

-- The course from the attempt with this number on; these offers are left, and the bus is free from this time on. Attempts follow one
-- another until no offer is left. Each is the next, and is hit as the hits say. The bus is free again when the attempt no longer keeps
-- it.
pub data IsCourse (hits : List Hit) : ℕ → ℕ → List TimedParts → List Transmission → Type 0 where
  over : (number free : ℕ) → IsCourse hits number free [] []
  attempted : (number free time : ℕ) (f : Parts) (hit : Option ℕ) (left : List TimedParts) (course : List Transmission) →
      IsNext free left time f → hit_of hits number ≡ hit → FallsInWindow f hit
      → IsCourse hits (number + 1) (time + keeping f hit) (left_by f hit left) course →
      IsCourse hits number free left (record { time = time; frame = f; hit = hit } ∷ course)

-- What follows from it.

-- it is one of these attempts
abbrev pub IsMade : List Transmission → Transmission → Type 0
IsMade [] s = ⊥
IsMade (x ∷ course) s = (x ≡ s) ⊎ IsMade course s

-- with this frame first, unless it was hit
abbrev pub and_sent : Option ℕ → Parts → List Parts → List Parts
and_sent None f frames = f ∷ frames
and_sent (Some offset) f frames = frames

-- the frames of the attempts that are not hit, in their order
abbrev pub frames_sent : List Transmission → List Parts
frames_sent [] = []
frames_sent (s ∷ course) = and_sent s.hit s.frame (frames_sent course)

-- one more if it is hit
abbrev pub and_hit : Option ℕ → ℕ → ℕ
and_hit None hits = hits
and_hit (Some offset) hits = hits + 1

-- the number of attempts that are hit
abbrev pub hits_made : List Transmission → ℕ
hits_made [] = 0
hits_made (s ∷ course) = and_hit s.hit (hits_made course)

-- the level at a time: that of the attempt on the bus, otherwise recessive
unfoldable pub course_at : List Transmission → ℕ → Level
course_at [] t = Recessive
course_at (s ∷ course) t =
    let levels = attempt_levels s.frame s.hit in
    if nat_le s.time t && nat_lt t (s.time + length levels) then slice_index_or levels (t - s.time) Recessive else course_at course t

-- how long an attempt lasts: the wire of its frame, or if it is hit, as long as it keeps the bus
abbrev pub lasting : Parts → Option ℕ → ℕ
lasting f None = length (wire f)
lasting f (Some offset) = hit_time f offset

-- the attempts that have ended by this time
abbrev pub ended_by : ℕ → List Transmission → List Transmission
ended_by t course = filter (λ s. nat_le (s.time + lasting s.frame s.hit) t) course

-- all attempts have ended by this time
abbrev pub AllEnded : List Transmission → ℕ → Type 0
AllEnded course t = (s : Transmission) → IsMade course s → s.time + lasting s.frame s.hit ≤ t

-- the counters of a port that has these frames to send, after these attempts (8)
abbrev pub course_tally : List Parts → List Transmission → Tally → Tally
course_tally queue [] t = t
course_tally queue (s ∷ course) t = course_tally queue course (tallied (holds queue s.frame) s.frame s.hit t)

-- The computed course.

-- an attempt at this time to send the pending frame, hit or not, and those after it
abbrev pub attempt_of : (Parts → List Transmission) → ℕ → Option ℕ → Option Parts → List Transmission
attempt_of behind time hit None = []
attempt_of behind time hit (Some f) = record { time = time; frame = f; hit = hit } ∷ behind f

-- at most this many attempts, from the one with this number on; the bus is free from this time on
abbrev pub course_from : ℕ → List Hit → ℕ → ℕ → List TimedParts → List Transmission
course_from zero hits number free left = []
course_from (suc count) hits number free [] = []
course_from (suc count) hits number free (x ∷ others) =
    let left = x ∷ others in
    let time = max free (earliest x others) in
    let hit = hit_of hits number in
    attempt_of (λ f. course_from count hits (number + 1) (time + keeping f hit) (left_by f hit left)) time hit
    (waiting (offered_by time left))

-- the course of all offers: at most one attempt for each offer, and one more for each hit
unfoldable pub course_of : List Hit → List TimedParts → List Transmission
course_of hits offers = course_from (length offers + length hits) hits 0 0 offers

-- each hit is in the window of the frame that its attempt sends
abbrev pub HitInWindows : List Transmission → Type 0
HitInWindows course = (s : Transmission) → IsMade course s → FallsInWindow s.frame s.hit
