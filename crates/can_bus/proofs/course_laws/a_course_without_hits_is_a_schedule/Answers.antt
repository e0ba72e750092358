use Rattle.can_bus.proofs.CourseCases.{course-schedule}
use Rattle.can_bus.proofs.course_laws.a_course_without_hits_is_a_schedule.Goals as goal

pub returns : goal.returns
returns c = λ offers course different is. course-schedule offers course is
