-- What a run of `canplan` has written for what it read, for each outcome. (docs/PLANNING.md, "`canplan`")
use Rattle.std.specs.Prelude.{ℕ, ◌≡◌, ◌⊎◌, ◌<◌, List, Result, Ok, Err}
use Rattle.can_plan_text.specs.declared.answer.Form.{Form}
use Rattle.can_plan_text.specs.declared.field.PlanField.{PlanField}
use Rattle.can_plan_text.specs.Plans.{IsWrongPlanField}
use Rattle.can_plan_text.specs.Details.{IsAnswerIn}
use Rattle.can_plan_text.specs.Timelines.{IsTimeline, IsUnending, IsUnknown}
use Rattle.can_program.specs.Written.{WritesBeginning, WritesNothing}
use Rattle.can_stream.specs.declared.fault.TraceFault.TheVariants.{Read, Write, Memory}
use Rattle.can_plan_text.specs.declared.canplan_fault.CanplanFault.{CanplanFault}
use Rattle.can_plan_text.specs.declared.canplan_fault.CanplanFault.TheVariants.{Field, MessageUnknown, TimelineTooLong, DeadlinesMissed, Stream}

-- the document is refused because of this field, and nothing is written
abbrev pub RefusesNetwork : PlanField → List ℕ → List ℕ → Type 0
RefusesNetwork wrong input output = IsWrongPlanField wrong input × WritesNothing input output

-- a field is wrong, or memory ran out
abbrev pub IsPlanFault : CanplanFault → Type 0
IsPlanFault fault = ((wrong : PlanField) × (fault ≡ Field wrong)) ⊎ (fault ≡ Stream Memory)

-- the whole output is written in a form, with this number of messages that may miss their deadline
abbrev pub AnswersNetwork : Form → ℕ → List ℕ → List ℕ → Type 0
AnswersNetwork form late input output = IsAnswerIn form input output late

-- this, with any number
abbrev pub AnswersWhole : Form → List ℕ → List ℕ → Type 0
AnswersWhole form input output = (late : ℕ) × AnswersNetwork form late input output

-- this, with at least one
abbrev pub AnswersLate : Form → List ℕ → List ℕ → Type 0
AnswersLate form input output = (late : ℕ) × (0 < late) × AnswersNetwork form late input output

-- what is written if the run ends with this result
abbrev pub DoesAnswer : Form → Result (Unit {0}) CanplanFault → List ℕ → List ℕ → Type 0
DoesAnswer form (Ok done) = AnswersNetwork form 0
DoesAnswer form (Err (Field wrong)) = RefusesNetwork wrong
DoesAnswer form (Err MessageUnknown) = λ input output. ⊥
DoesAnswer form (Err TimelineTooLong) = λ input output. ⊥
DoesAnswer form (Err DeadlinesMissed) = AnswersLate form
DoesAnswer form (Err (Stream Read)) = WritesNothing
DoesAnswer form (Err (Stream Write)) = WritesBeginning (AnswersWhole form)
DoesAnswer form (Err (Stream Memory)) = WritesNothing
DoesAnswer form (Err (Stream _)) = λ input output. ⊥

-- ---- the scenario of the worst case of a message

-- the whole scenario is written
abbrev pub Draws : List ℕ → List ℕ → List ℕ → Type 0
Draws message input output = IsTimeline input message output

-- no message has the name, and nothing is written
abbrev pub RefusesName : List ℕ → List ℕ → List ℕ → Type 0
RefusesName message input output = IsUnknown input message × WritesNothing input output

-- no scenario is long enough, and nothing is written
abbrev pub RefusesLength : List ℕ → List ℕ → List ℕ → Type 0
RefusesLength message input output = IsUnending input message × WritesNothing input output

-- what is written if the run ends with this result
abbrev pub DoesTimeline : List ℕ → Result (Unit {0}) CanplanFault → List ℕ → List ℕ → Type 0
DoesTimeline message (Ok done) = Draws message
DoesTimeline message (Err (Field wrong)) = RefusesNetwork wrong
DoesTimeline message (Err MessageUnknown) = RefusesName message
DoesTimeline message (Err TimelineTooLong) = RefusesLength message
DoesTimeline message (Err DeadlinesMissed) = λ input output. ⊥
DoesTimeline message (Err (Stream Read)) = WritesNothing
DoesTimeline message (Err (Stream Write)) = WritesBeginning (Draws message)
DoesTimeline message (Err (Stream Memory)) = WritesNothing
DoesTimeline message (Err (Stream _)) = λ input output. ⊥

-- the scenario is refused because of a field, a name or its length, or memory ran out
abbrev pub IsTimelineFault : CanplanFault → Type 0
IsTimelineFault fault = IsPlanFault fault ⊎ ((fault ≡ MessageUnknown) ⊎ (fault ≡ TimelineTooLong))
