use Rattle.can_plan.proofs.Calls.{log-names, stands-within}
use Rattle.can_plan.proofs.laws.frames_end_in_time_on_the_bus.Goals as goal

pub returns : goal.returns
returns c = record {
  levels = λ most messages m bound ends releases offers hits bus course is place r at of. stands-within most messages releases offers hits bus course is m bound ends place r at of;
  logs = λ most messages m bound ends releases offers hits bus course is place r at of. log-names most messages releases offers hits bus course is m bound ends place r at of;
}
