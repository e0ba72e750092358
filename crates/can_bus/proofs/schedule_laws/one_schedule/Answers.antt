use Rattle.can_bus.proofs.CourseSchedules.{one-schedule, no-other-schedule, schedule-frames, starts-late, starts-rise}
use Rattle.can_bus.proofs.schedule_laws.one_schedule.Goals as goal

pub returns : goal.returns
returns c = record { exists = one-schedule; only = no-other-schedule; frames = schedule-frames; offered = starts-late; one_by_one = starts-rise }
