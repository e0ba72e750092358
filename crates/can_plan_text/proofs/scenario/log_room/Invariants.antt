use Rattle.std.proofs.Common.{◌≡◌, take}
use Rattle.can_plan_text.specs.Scenario.{log_room}
use Rattle.can_plan_text.proofs.scenario.log_room.Given as goal

abbrev pub invariant-loop-sequence : goal.invariant-loop-sequence
invariant-loop-sequence l = l.frames ≡ log_room (take l.sequence-index l.sequences)
