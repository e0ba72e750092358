use Rattle.can_bus.proofs.CourseSchedules.{track-rests, track-wires}
use Rattle.can_bus.proofs.schedule_laws.a_track_has_each_wire.Goals as goal

pub returns : goal.returns
returns c = record { wires = track-wires; elsewhere = track-rests }
