-- A transmitter that samples one of its own bits inverted.
use Rattle.std.proofs.Common.{◌≡◌, ◌⊎◌, true, false, Option, Some, length, refl, sym, ◌∙◌, ap, subst, inl, inr}
use Rattle.std.proofs.Math.Dec.{eqb}
use Rattle.std.proofs.lemmas.Bool.{cases_Bool, cond-true, cond-false}
use Rattle.can_frame.specs.declared.level.Level.{Level}
use Rattle.can_frame.specs.declared.level.Level.TheVariants.{Dominant, Recessive}
use Rattle.can_frame.specs.Levels.{same, opposite}
use Rattle.can_frame.specs.Parts.{Parts}
use Rattle.can_frame.proofs.LevelTests.{opposite-twice}
use Rattle.can_code.specs.Sending.{sent_level}
use Rattle.can_code.specs.Front.{FrontParts}
use Rattle.can_fault.specs.Counters.{ConfineParts}
use Rattle.can_terms.specs.declared.event.Event.TheVariants.{Error}
use Rattle.can_terms.specs.declared.event.ErrorKind.{ErrorKind}
use Rattle.can_terms.specs.declared.event.ErrorKind.TheVariants.{Bit, Stuff, Ack}
use Rattle.can_mac.specs.declared.moves.Stance.{Stance}
use Rattle.can_mac.specs.declared.phase.Overloads.{Overloads}
use Rattle.can_mac.specs.declared.phase.Reading.{Reading}
use Rattle.can_mac.specs.declared.phase.Role.TheVariants.{Sender}
use Rattle.can_mac.specs.declared.phase.Phase.TheVariants.{StuffedPart, CrcDelimiter, AckSlot, AckDelimiter, EndOfFrame}
use Rattle.can_mac.specs.State.{MacPhase, MacState}
use Rattle.can_mac.specs.Moves.{errs, in_arbitration, is_uncounted, stuff_bit_move, sent_bit_move, stuffed_part_move, unacknowledged_move}
use Rattle.can_mac.specs.Machine.{mac_drives, mac_step, on_step, part_drives, phase_drives, stance}
use Rattle.can_mac.specs.Frames.{IsActive}
use Rattle.can_mac.proofs.FrameEnds.{active-not_passive}
use Rattle.can_mac.proofs.FrameParts.{part_state}
use Rattle.can_signalling.specs.Signalling.{IsTransmitter, IsFixedForm, crc_delimiter, ack_delimiter, end_of_frame, own_bit_error, flagging}
use Rattle.can_signalling.proofs.Errors.{errs-lands}

same_twice : (x : Level) → same x x ≡ true
same_twice Dominant = refl
same_twice Recessive = refl

-- a bit of its own after arbitration, or a dominant one
module _ (f : Parts) (front : FrontParts) where
  abbrev Past : Level → Type 0
  Past driven = (in_arbitration f front.unstuffed ≡ false) ⊎ (driven ≡ Dominant)

  counts : (last : Level) → Past (opposite last) → is_uncounted (Sender f) front.unstuffed last ≡ false
  counts Recessive h = refl
  counts Dominant (inl past) = past
  counts Dominant (inr e) = cc

  module _ (s : Stance) (role : s.role ≡ Sender f) where
    bit-errs : (driven : Level) → Past driven → sent_bit_move s f front driven (opposite driven) ≡ errs s Bit
    bit-errs Dominant h = refl
    bit-errs Recessive (inl past) = cond-false (in_arbitration f front.unstuffed) _ _ past
    bit-errs Recessive (inr e) = cc

    stuff-errs : Past (opposite front.last) → stuff_bit_move s front front.last ≡ errs s Stuff
    stuff-errs h =
        cond-true (same front.last front.last) _ _ (same_twice front.last)
        ∙ cond-false (is_uncounted s.role front.unstuffed front.last) _ _ (ap (λ r. is_uncounted r front.unstuffed front.last) role ∙ counts front.last h)

module _ (f : Parts) (o : Overloads) (c : ConfineParts) (active : IsActive c) where
  abbrev sending : MacPhase → MacState
  sending phase = part_state phase (Sender f) o c

  -- its next state, with this error
  abbrev Signals : MacPhase → Level → ErrorKind → Type 0
  Signals phase x kind = (waiting : Option Parts) → mac_step (sending phase) waiting x ≡ (flagging (sending phase), Some (Error kind))

  part-moves : (front : FrontParts) → Past f front (part_drives (Sender f) front)
      → stuffed_part_move (stance (sending (StuffedPart front))) front (opposite (part_drives (Sender f) front)) ≡ errs (stance (sending (StuffedPart front))) (own_bit_error front)
  part-moves front past = let s = stance (sending (StuffedPart front)) in elim (cases_Bool (eqb front.run 5)) [
    | inl due ↦
        let driven : part_drives (Sender f) front ≡ opposite front.last = cond-true (eqb front.run 5) _ _ due in
        ap (λ x. stuffed_part_move s front (opposite x)) driven ∙ ap (stuffed_part_move s front) (opposite-twice front.last)
        ∙ cond-true (eqb front.run 5) _ _ due ∙ stuff-errs f front s refl (subst (Past f front) driven past)
        ∙ ap (errs s) (sym (cond-true (eqb front.run 5) Stuff Bit due))
    | inr free ↦
        let driven : part_drives (Sender f) front ≡ sent_level f (length front.unstuffed) = cond-false (eqb front.run 5) _ _ free in
        ap (λ x. stuffed_part_move s front (opposite x)) driven
        ∙ cond-false (eqb front.run 5) _ _ free ∙ bit-errs f front s refl (sent_level f (length front.unstuffed)) (subst (Past f front) driven past)
        ∙ ap (errs s) (sym (cond-false (eqb front.run 5) Stuff Bit free))
  ]

  part-signals : (front : FrontParts) → Past f front (part_drives (Sender f) front) → Signals (StuffedPart front) (opposite (part_drives (Sender f) front)) (own_bit_error front)
  unfolding mac_step
  part-signals front past w = ap (on_step (sending (StuffedPart front))) (part-moves front past) ∙ errs-lands (Sender f) c active (StuffedPart front) o (own_bit_error front)

  slot-signals : (r : Reading) → Signals (AckSlot r) Recessive Ack
  unfolding mac_step
  slot-signals r w =
      let s = stance (sending (AckSlot r)) in
      let moves : unacknowledged_move s ≡ errs s Ack = cond-false s.passive _ _ (active-not_passive c active) in
      ap (on_step (sending (AckSlot r))) moves ∙ errs-lands (Sender f) c active (AckSlot r) o Ack

  form-signals : (phase : MacPhase) → IsFixedForm phase → (waiting : Option Parts) → (phase_drives phase (Sender f) waiting ≡ Recessive) × (mac_step (sending phase) waiting Dominant ≡ (flagging (sending phase), Some (Error Bit)))
  unfolding mac_step
  form-signals _ (crc_delimiter r) w = (refl, errs-lands (Sender f) c active (CrcDelimiter r) o Bit)
  form-signals _ (ack_delimiter r) w = (refl, errs-lands (Sender f) c active (AckDelimiter r) o Bit)
  form-signals _ (end_of_frame r place) w = (refl, errs-lands (Sender f) c active (EndOfFrame r place) o Bit)

-- of any transmitter, by its phase and role
module _ (f : Parts) (m : MacState) (is : IsTransmitter f m) where
  -- a fact of the state with these in place of its own
  of_parts : (P : MacState → Type 0) (phase : MacPhase) → m.phase ≡ phase → P (part_state phase (Sender f) m.overloads m.counters) → P m
  of_parts P phase e h =
      subst (λ role. P (part_state m.phase role m.overloads m.counters)) (sym is.role)
      (subst (λ p. P (part_state p (Sender f) m.overloads m.counters)) (sym e) h)

  abbrev SignalsOwn : Option Parts → ErrorKind → MacState → Type 0
  SignalsOwn waiting kind n = mac_step n waiting (opposite (mac_drives n waiting)) ≡ (flagging n, Some (Error kind))

  pub transmitter-part : (front : FrontParts) (waiting : Option Parts) → m.phase ≡ StuffedPart front
      → (in_arbitration f front.unstuffed ≡ false) ⊎ (mac_drives m waiting ≡ Dominant)
      → mac_step m waiting (opposite (mac_drives m waiting)) ≡ (flagging m, Some (Error (own_bit_error front)))
  unfolding mac_drives
  transmitter-part front waiting phase past =
      let drives : mac_drives m waiting ≡ part_drives (Sender f) front = of_parts (λ n. mac_drives n waiting ≡ part_drives (Sender f) front) (StuffedPart front) phase refl in
      of_parts (SignalsOwn waiting (own_bit_error front)) (StuffedPart front) phase (part-signals f m.overloads m.counters is.active front (subst (Past f front) drives past) waiting)

  pub transmitter-slot : (r : Reading) (waiting : Option Parts) → m.phase ≡ AckSlot r → mac_step m waiting Recessive ≡ (flagging m, Some (Error Ack))
  transmitter-slot r waiting phase =
      of_parts (λ n. mac_step n waiting Recessive ≡ (flagging n, Some (Error Ack))) (AckSlot r) phase (slot-signals f m.overloads m.counters is.active r waiting)

  pub transmitter-form : (waiting : Option Parts) → IsFixedForm m.phase → mac_step m waiting (opposite (mac_drives m waiting)) ≡ (flagging m, Some (Error Bit))
  unfolding mac_drives
  transmitter-form waiting form =
      let h = form-signals f m.overloads m.counters is.active m.phase form waiting in
      of_parts (SignalsOwn waiting Bit) m.phase refl (ap (λ x. mac_step (part_state m.phase (Sender f) m.overloads m.counters) waiting (opposite x)) h.0 ∙ h.1)

  -- the level that is sampled there
  pub transmitter-dominant : (waiting : Option Parts) → IsFixedForm m.phase → mac_step m waiting Dominant ≡ (flagging m, Some (Error Bit))
  transmitter-dominant waiting form =
      of_parts (λ n. mac_step n waiting Dominant ≡ (flagging n, Some (Error Bit))) m.phase refl (form-signals f m.overloads m.counters is.active m.phase form waiting).1

pub flag-drives : (m : MacState) (waiting : Option Parts) → mac_drives (flagging m) waiting ≡ Dominant
unfolding mac_drives
flag-drives m waiting = refl
