-- What a bound promises of a course. (docs/PLANNING.md, "What a bound says")
use Rattle.std.specs.Prelude.{ℕ, ◌≡◌, ◌+◌, ◌≤◌, List, length, map, Some, slice_get}
use Rattle.can_frame.specs.Parts.{IsFrame}
use Rattle.can_wire.specs.Wire.{wire}
use Rattle.can_terms.specs.declared.hit.Hit.{Hit}
use Rattle.can_bus.specs.Course.{IsCourse, Transmission}
use Rattle.can_bus.specs.CourseWaiting.{AreInTime, IsSentBy}
use Rattle.can_bus.specs.Shifts.{frames_later}
use Rattle.can_bus.specs.Timed.{TimedParts}
use Rattle.can_plan.specs.declared.message.Message.{Message}
use Rattle.can_plan.specs.Messages.{AreHitAtMost, IsIn, IsOf, KeepTo, Release, offer_of}

-- An attempt sends each frame of the message, and its wire ends at most the bound after the frame's release.
abbrev pub EndWithin : Message → ℕ → List Release → List Transmission → Type 0
EndWithin m bound releases course = (place : ℕ) (r : Release) → slice_get releases place ≡ Some r → IsOf m r →
    (s : Transmission) × IsSentBy (map offer_of releases) course place (offer_of r) s
    × (s.time + length (wire r.frame) ≤ r.released + bound)

-- As `EndWithin`, with the times of releases counted from d bit times before the first bit time of the course, so that a frame may have
-- been released before it: the attempt that sends the offer at the place of the release ends in time.
abbrev pub EndWithinShifted : ℕ → Message → ℕ → List Release → List TimedParts → List Transmission → Type 0
EndWithinShifted d m bound releases offers course =
    (place : ℕ) (r : Release) (offer : TimedParts) → slice_get releases place ≡ Some r
    → slice_get offers place ≡ Some offer → IsOf m r →
    (s : Transmission) × IsSentBy offers course place offer s × (d + (s.time + length (wire offer.frame)) ≤ r.released + bound)

-- The bound holds on every course whose releases keep to the messages, and whose hits keep to `most`. Frames of one arbitration field are
-- offered in the order of their releases.
abbrev pub EndAlways : (ℕ → ℕ) → List Message → Message → ℕ → Type 0
EndAlways most messages m bound =
    (releases : List Release) (hits : List Hit) (course : List Transmission)
    → IsCourse hits 0 0 (map offer_of releases) course →
    ((r : Release) → IsIn releases r → IsFrame r.frame) → AreInTime (map offer_of releases) → KeepTo messages releases
    → AreHitAtMost most course →
    EndWithin m bound releases course

-- A course whose frames are those of releases that keep to the messages, with all times of releases counted from d bit times before its
-- first bit time. Its hits keep to `most`.
pub record IsShiftedCourse (most : ℕ → ℕ) (messages : List Message) (d : ℕ) (releases : List Release)
    (offers : List TimedParts) (hits : List Hit) (course : List Transmission) : Type 0 where
  pub is_course : IsCourse hits 0 0 offers course
  -- each release is offered d bit times later than its offer to the course says
  pub same : map offer_of releases ≡ frames_later d offers
  pub frames : (r : Release) → IsIn releases r → IsFrame r.frame
  pub in_time : AreInTime offers
  pub keep : KeepTo messages releases
  pub few : AreHitAtMost most course
