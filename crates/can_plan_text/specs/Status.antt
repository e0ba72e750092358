-- The exit status of `canplan`. (docs/CODES.md)
use Rattle.std.specs.Prelude.{ℕ}
use Rattle.can_plan_text.specs.declared.fault.PlanFault.{PlanFault}
use Rattle.can_plan_text.specs.declared.fault.PlanFault.TheVariants as plan
use Rattle.can_program.specs.Status.{stream_status}
use Rattle.can_stream.specs.declared.fault.TraceFault.TheVariants.{Memory}
use Rattle.can_plan_text.specs.declared.worst_fault.WorstFault.{WorstFault}
use Rattle.can_plan_text.specs.declared.worst_fault.WorstFault.TheVariants as worst
use Rattle.can_plan_text.specs.declared.canplan_fault.CanplanFault.{CanplanFault}
use Rattle.can_plan_text.specs.declared.canplan_fault.CanplanFault.TheVariants.{Field, MessageUnknown, TimelineTooLong, DeadlinesMissed, Stream}

-- 1: the document, the name or the length is refused, or some message may miss its deadline. 3: a stream failed. 4: memory ran
-- out.
abbrev pub canplan_status : CanplanFault → ℕ
canplan_status (Field wrong) = 1
canplan_status MessageUnknown = 1
canplan_status TimelineTooLong = 1
canplan_status DeadlinesMissed = 1
canplan_status (Stream fault) = stream_status fault

-- the fault of the program if a document is refused
abbrev pub plan_fault_of : PlanFault → CanplanFault
plan_fault_of (plan.Field wrong) = Field wrong
plan_fault_of plan.Memory = Stream Memory

-- the fault of the program if there is no scenario
abbrev pub worst_fault_of : WorstFault → CanplanFault
worst_fault_of (worst.Field wrong) = Field wrong
worst_fault_of worst.Unknown = MessageUnknown
worst_fault_of worst.TooLong = TimelineTooLong
worst_fault_of worst.Memory = Stream Memory
