use Rattle.can_bus.proofs.CourseDelays.{bound, course-costs, exact, few, meanwhile, offers-in_time, own}
use Rattle.can_bus.proofs.CourseSends.{each-sent}
use Rattle.can_bus.proofs.WaitBounds.{going-few, kept-unhit}
use Rattle.can_bus.proofs.course_laws.waiting_on_a_network_is_bounded.Goals as goal

pub returns : goal.returns
returns c = record {
  in_time = offers-in_time;
  sent = each-sent;
  own = λ hits offers course is rise place offer s by. let o = own hits offers course is rise place offer s by in (o.frame, o.unhit, o.in_time);
  exact = exact;
  meanwhile = meanwhile;
  bound = bound;
  few = few;
  without_hits = λ starts from until. kept-unhit from until starts;
  one_of_a_field = going-few;
  costs = λ hits offers course is s made framed. course-costs is s made framed;
}
