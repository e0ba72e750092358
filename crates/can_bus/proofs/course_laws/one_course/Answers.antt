use Rattle.can_bus.proofs.CourseLaws.{course-only, course-there}
use Rattle.can_bus.proofs.course_laws.one_course.Goals as goal

pub returns : goal.returns
returns c = record { exists = course-there; only = course-only }
