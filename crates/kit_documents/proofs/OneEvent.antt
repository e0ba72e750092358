-- A text is that of at most one event, and a word that of at most one state: letters of the text distinguish them.
use Rattle.std.proofs.Common.{◌≡◌, ℕ, ◌+◌, ◌*◌, nat_eq, if◌then◌else◌, false, List, [], ◌++◌, codes, get_or, refl, sym, ap, subst, ◌∙◌}
use Rattle.std.proofs.lemmas.List.{append_cancel_left}
use Rattle.can_frame.specs.Parts.{Parts, IsFrame}
use Rattle.can_frame.specs.Text.{frame_text}
use Rattle.can_frame.proofs.OneText.{same_frame}
use Rattle.can_fault.specs.declared.state.State.{State}
use Rattle.can_fault.specs.declared.state.State.TheVariants.{Active, Passive, BusOff}
use Rattle.can_terms.specs.declared.event.Event.{Event}
use Rattle.can_terms.specs.declared.event.Event.TheVariants.{Sent, Received, Lost, Error, Overload, WentOff, Recovered}
use Rattle.can_terms.specs.declared.event.ErrorKind.{ErrorKind}
use Rattle.can_terms.specs.declared.event.ErrorKind.TheVariants.{Bit, Stuff, Crc, Form, Ack}
use Rattle.can_fault.specs.Words.{state_word}
use Rattle.kit_documents.specs.Events.{event_text, SaysEvent}

-- ---- states, by their first letter

abbrev state_from : ℕ → State
state_from letter = if nat_eq letter 97 then Active else if nat_eq letter 112 then Passive else BusOff

state_read : (s : State) → s ≡ state_from (get_or (state_word s) 0 0)
state_read Active = refl
state_read Passive = refl
state_read BusOff = refl

pub one-state : (s t : State) → state_word s ≡ state_word t → s ≡ t
one-state s t same = state_read s ∙ ap (λ (word : List ℕ). state_from (get_or word 0 0)) same ∙ sym (state_read t)

-- ---- events, by their first letter and their fourth one

abbrev letters : List ℕ → ℕ
letters text = 256 * get_or text 0 0 + get_or text 3 0

-- the frame of an event, and this one if it has none
abbrev frame_of : Parts → Event → Parts
frame_of f (Sent g) = g
frame_of f (Received g) = g
frame_of f _ = f

-- The event of these letters: `st` of sent, `re` of received, `lt` of lost, `or` of overload, `wt` of went off; of the errors `b ` of bit, `sf` of stuff,
-- `c ` of crc, `fm` of form, `a ` of ack.
abbrev event_from : ℕ → Parts → Event
event_from n f =
    if nat_eq n 29556 then Sent f else if nat_eq n 29285 then Received f else if nat_eq n 27764 then Lost else if nat_eq n 25120 then Error Bit
    else if nat_eq n 29542 then Error Stuff else if nat_eq n 25376 then Error Crc else if nat_eq n 26221 then Error Form
    else if nat_eq n 24864 then Error Ack else if nat_eq n 28530 then Overload else if nat_eq n 30580 then WentOff else Recovered

event_read : (f : Parts) (e : Event) → e ≡ event_from (letters (event_text e)) (frame_of f e)
event_read f (Sent g) = refl
event_read f (Received g) = refl
event_read f Lost = refl
event_read f (Error Bit) = refl
event_read f (Error Stuff) = refl
event_read f (Error Crc) = refl
event_read f (Error Form) = refl
event_read f (Error Ack) = refl
event_read f Overload = refl
event_read f WentOff = refl
event_read f Recovered = refl

-- an event with the text of this one is of its kind
of_its_kind : (f : Parts) (a b : Event) → event_text a ≡ event_text b → b ≡ event_from (letters (event_text a)) (frame_of f b)
of_its_kind f a b same = event_read f b ∙ ap (λ (text : List ℕ). event_from (letters text) (frame_of f b)) (sym same)

some_frame : Parts
some_frame = record { id = record { extended = false; raw = 0 }; remote = false; dlc = 0; bytes = [] }

same_after : (word : List ℕ) (f g : Parts) → IsFrame f → IsFrame g → word ++ frame_text f ≡ word ++ frame_text g → f ≡ g
same_after word f g is are same = same_frame f g is are (append_cancel_left word (frame_text f) (frame_text g) same)

-- a text says at most one event
pub one-event : (text : List ℕ) (a b : Event) → SaysEvent text a → SaysEvent text b → a ≡ b
one-event text (Sent f) b said says =
    let g = frame_of some_frame b in
    let same = sym said.text_is ∙ says.text_is in
    let is : b ≡ Sent g = of_its_kind some_frame (Sent f) b same in
    let frames = subst (λ (e : Event). SaysEvent text e) is says in
    ap Sent (same_after (codes "sent ") f g said.frame frames.frame (sym said.text_is ∙ frames.text_is)) ∙ sym is
one-event text (Received f) b said says =
    let g = frame_of some_frame b in
    let same = sym said.text_is ∙ says.text_is in
    let is : b ≡ Received g = of_its_kind some_frame (Received f) b same in
    let frames = subst (λ (e : Event). SaysEvent text e) is says in
    ap Received (same_after (codes "received ") f g said.frame frames.frame (sym said.text_is ∙ frames.text_is)) ∙ sym is
one-event text Lost b said says = sym (of_its_kind some_frame Lost b (sym said.text_is ∙ says.text_is))
one-event text (Error Bit) b said says = sym (of_its_kind some_frame (Error Bit) b (sym said.text_is ∙ says.text_is))
one-event text (Error Stuff) b said says = sym (of_its_kind some_frame (Error Stuff) b (sym said.text_is ∙ says.text_is))
one-event text (Error Crc) b said says = sym (of_its_kind some_frame (Error Crc) b (sym said.text_is ∙ says.text_is))
one-event text (Error Form) b said says = sym (of_its_kind some_frame (Error Form) b (sym said.text_is ∙ says.text_is))
one-event text (Error Ack) b said says = sym (of_its_kind some_frame (Error Ack) b (sym said.text_is ∙ says.text_is))
one-event text Overload b said says = sym (of_its_kind some_frame Overload b (sym said.text_is ∙ says.text_is))
one-event text WentOff b said says = sym (of_its_kind some_frame WentOff b (sym said.text_is ∙ says.text_is))
one-event text Recovered b said says = sym (of_its_kind some_frame Recovered b (sym said.text_is ∙ says.text_is))
