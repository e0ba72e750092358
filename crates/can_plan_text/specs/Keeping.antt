-- The frames of a worst case keep to the messages, so that bounds apply to them. (docs/PLANNING.md, "The worst case")
use Rattle.std.specs.Prelude.{ℕ, ◌≡◌, List, map}
use Rattle.std.specs.List.{flat_map}
use Rattle.can_bus.specs.Shifts.{frames_later}
use Rattle.can_bus.specs.Timed.{TimedParts}
use Rattle.can_plan.specs.declared.message.Message.{Message}
use Rattle.can_plan.specs.FramesOf.{IsLongestBusy}
use Rattle.can_plan.specs.Messages.{IsIn, KeepTo, Release, offer_of}
use Rattle.can_plan_text.specs.declared.plan.Planned.{Planned}
use Rattle.can_plan_text.specs.declared.case.Sequence.{Sequence}
use Rattle.can_plan_text.specs.declared.case.WorstCase.{WorstCase}
use Rattle.can_plan_text.specs.Worst.{frame_dlc}

-- each message has the right longest time on the bus for its frames, as every message of a document does
abbrev pub AreSized : List Planned → Type 0
AreSized planned = (p : Planned) → IsIn planned p → IsLongestBusy p.head.id p.head.remote (frame_dlc p) p.message.longest

-- the offers of one message
abbrev pub offers_in : Sequence → List TimedParts
offers_in s = map (λ (t : ℕ). let x : TimedParts = record { time = t; frame = s.frame } in x) s.times.items

-- the offers of a worst case, one message after another
abbrev pub offers_of : WorstCase → List TimedParts
offers_of w = flat_map offers_in w.sequences.items

-- the offers, `delay` bit times later, are those of releases that keep to the messages
pub record KeepToMessages (messages : List Message) (delay : ℕ) (offers : List TimedParts) : Type 0 where
  pub releases : List Release
  pub same : map offer_of releases ≡ frames_later delay offers
  pub keep : KeepTo messages releases
