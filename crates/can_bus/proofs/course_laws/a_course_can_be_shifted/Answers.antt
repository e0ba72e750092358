use Rattle.can_bus.proofs.Shifts.{course-later}
use Rattle.can_bus.proofs.course_laws.a_course_can_be_shifted.Goals as goal

pub returns : goal.returns
returns c = course-later
