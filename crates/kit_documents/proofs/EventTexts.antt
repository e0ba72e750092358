-- What the text of an event says.
use Rattle.std.proofs.Common.{◌≡◌, ◌≢◌, ℕ, List, ◌++◌, Option, Some, None, MatchOption, codes, refl, sym, ap, ◌∙◌}
use Rattle.std.proofs.lemmas.List.{append_cancel_left}
use Rattle.can_frame.specs.Parts.{Parts, IsFrame}
use Rattle.can_frame.specs.Text.{frame_text}
use Rattle.can_terms.specs.declared.event.Event.{Event}
use Rattle.can_terms.specs.declared.event.Event.TheVariants.{Sent, Received, Lost, Error, Overload, WentOff, Recovered}
use Rattle.kit_documents.specs.Events.{event_text, event_frame, SaysEvent}

-- a frame's text after a word
pub frame-behind : (text word rest : List ℕ) (o : Option Parts) → text ≡ word ++ rest → MatchOption o ((f : Parts) → IsFrame f → rest ≢ frame_text f) (λ f. IsFrame f × (rest ≡ frame_text f))
    → MatchOption o ((f : Parts) → IsFrame f → text ≢ word ++ frame_text f) (λ f. IsFrame f × (text ≡ word ++ frame_text f))
frame-behind text word rest None is none = λ f frame same. none f frame (append_cancel_left word rest (frame_text f) (sym is ∙ same))
frame-behind text word rest (Some f) is said = (said.0, is ∙ ap (λ r. word ++ r) said.1)

-- a text that is neither of a sent nor of a received frame is that of an event of words only, or of no event
module _ (text : List ℕ) (sent : (f : Parts) → IsFrame f → text ≢ codes "sent " ++ frame_text f) (received : (f : Parts) → IsFrame f → text ≢ codes "received " ++ frame_text f) where
  none_said : ((event : Event) → event_frame event ≡ None → text ≢ event_text event) → (event : Event) → SaysEvent text event → ⊥
  none_said none (Sent f) says = sent f says.frame says.text_is
  none_said none (Received f) says = received f says.frame says.text_is
  none_said none Lost says = none Lost refl says.text_is
  none_said none (Error kind) says = none (Error kind) refl says.text_is
  none_said none Overload says = none Overload refl says.text_is
  none_said none WentOff says = none WentOff refl says.text_is
  none_said none Recovered says = none Recovered refl says.text_is

  some_said : (event : Event) → event_frame event ≡ None → text ≡ event_text event → SaysEvent text event
  some_said (Sent f) none is = absurd (cc)
  some_said (Received f) none is = absurd (cc)
  some_said Lost none is = record { text_is = is; frame = tt }
  some_said (Error kind) none is = record { text_is = is; frame = tt }
  some_said Overload none is = record { text_is = is; frame = tt }
  some_said WentOff none is = record { text_is = is; frame = tt }
  some_said Recovered none is = record { text_is = is; frame = tt }

  pub words-said : (o : Option Event) → MatchOption o ((event : Event) → event_frame event ≡ None → text ≢ event_text event) (λ event. (event_frame event ≡ None) × (text ≡ event_text event))
      → MatchOption o ((event : Event) → SaysEvent text event → ⊥) (SaysEvent text)
  words-said None none = none_said none
  words-said (Some event) said = some_said event said.0 said.1
