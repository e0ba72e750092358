use Rattle.can_bus.proofs.CourseCases.{course-ascends}
use Rattle.can_bus.proofs.course_laws.a_course_at_once_ascends.Goals as goal

pub returns : goal.returns
returns c = course-ascends
