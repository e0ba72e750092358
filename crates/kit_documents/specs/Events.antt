-- Events as text, in documents and in the line protocol. (docs/CONFORMANCE.md)
use Rattle.std.specs.Prelude.{ℕ, ◌≡◌, List, ◌++◌, codes, Option, Some, None, IfSome}
use Rattle.can_frame.specs.Parts.{Parts, IsFrame}
use Rattle.can_frame.specs.Text.{frame_text}
use Rattle.can_terms.specs.declared.event.Event.{Event}
use Rattle.can_terms.specs.declared.event.Event.TheVariants.{Sent, Received}
use Rattle.can_terms.specs.Codes.{event_kind}
use Rattle.can_terms.specs.Words.{kind_word}

-- The text of an event: its word, and its frame, if it has one.
abbrev pub event_text : Event → List ℕ
event_text (Sent f) = codes "sent " ++ frame_text f
event_text (Received f) = codes "received " ++ frame_text f
event_text event = kind_word (event_kind event)

-- The frame of an event, if it has one.
abbrev pub event_frame : Event → Option Parts
event_frame (Sent f) = Some f
event_frame (Received f) = Some f
event_frame _ = None

-- The text is that of this event. The frame of the event, if it has one, is valid.
pub record SaysEvent (text : List ℕ) (event : Event) : Type 0 where
  pub text_is : text ≡ event_text event
  pub frame : IfSome (event_frame event) IsFrame
