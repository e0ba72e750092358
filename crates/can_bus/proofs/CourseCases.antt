-- The course without hits, and with all frames offered at once.
use Rattle.std.proofs.Common.{◌≡◌, List, [], sym, ◌∙◌}
use Rattle.can_terms.specs.declared.hit.Hit.{Hit}
use Rattle.can_bus.specs.Course.{IsCourse, Transmission}
use Rattle.can_bus.specs.Quiet.{AreDifferent, ascending}
use Rattle.can_bus.specs.Repair.{FallInWindows, repaired_course}
use Rattle.can_bus.specs.Schedule.{schedule, unhit}
use Rattle.can_bus.specs.Timed.{AreAtOnce, TimedParts, frames_of}
use Rattle.can_bus.proofs.Ascending.{ascending_there}
use Rattle.can_bus.proofs.CourseLaws.{course-only}
use Rattle.can_bus.proofs.CoursePlans.{course-at_once}
use Rattle.can_bus.proofs.CourseSchedules.{course-computed}

pub course-schedule : (offers : List TimedParts) (course : List Transmission) → IsCourse [] 0 0 offers course → course ≡ unhit (schedule offers)
course-schedule offers course made = (course-only [] offers course made).0 ∙ sym (course-computed offers)

pub course-ascends : (hits : List Hit) (offers : List TimedParts) → AreDifferent (frames_of offers) → AreAtOnce offers → FallInWindows (ascending (frames_of offers)) hits →
    (course : List Transmission) → IsCourse hits 0 0 offers course → course ≡ repaired_course (ascending (frames_of offers)) hits
course-ascends hits offers different at_once fall course made =
    let planned = course-at_once hits offers (ascending (frames_of offers)) different at_once (ascending_there (frames_of offers) different) fall.windows in
    (course-only hits offers course made).0 ∙ sym (course-only hits offers (repaired_course (ascending (frames_of offers)) hits) planned).0
