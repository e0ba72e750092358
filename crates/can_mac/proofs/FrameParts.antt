-- One more level of a frame's stuffed part, at a receiver, at a transmitter, and at one that loses arbitration.
use Rattle.std.proofs.Common.{◌≡◌, ◌≢◌, ℕ, ◌+◌, ◌<◌, ◌≤◌, Bool, true, false, ◌&&◌, Option, Some, None, [], ◌∷◌, ◌++◌, length, refl, sym, ◌∙◌, ap, arith, inl, inr, append_assoc, length-append}
use Rattle.std.proofs.Math.Dec.{eqb, ltb}
use Rattle.std.proofs.lemmas.Bool.{cond-true, cond-false, cond_both, ne_eqb, lt-ltb, le-ltb, le-leb, cases_lt}
use Rattle.std.specs.Prelude.{unwrap_or, slice_index_or}
use Rattle.can_frame.specs.declared.level.Level.{Level}
use Rattle.can_frame.specs.declared.level.Level.TheVariants.{Dominant, Recessive}
use Rattle.can_frame.specs.Levels.{same}
use Rattle.can_frame.specs.Parts.{Parts, IsFrame}
use Rattle.can_wire.specs.Wire.{stuffed_part, wire, tail, unstuffed}
use Rattle.can_wire.specs.Layout.{level_at, rtr_place}
use Rattle.can_code.specs.Sending.{sent_level}
use Rattle.can_code.specs.Front.{FrontParts, first_front, is_stuff_error, heard_level}
use Rattle.can_wire.proofs.LayoutPlaces.{level_at-append, level_at-behind}
use Rattle.can_code.proofs.UnstuffedLevels.{unstuffed-agrees, frame_of-unstuffed}
use Rattle.can_code.proofs.WireFronts.{front_at, front_at-heard, front_at-going, front_at-ended, front_at-unstuffed}
use Rattle.can_fault.specs.Counters.{ConfineParts}
use Rattle.can_terms.specs.declared.event.Event.TheVariants.{Lost}
use Rattle.can_mac.specs.declared.moves.Stance.{Stance}
use Rattle.can_mac.specs.declared.phase.Overloads.{Overloads}
use Rattle.can_mac.specs.declared.phase.Role.{Role}
use Rattle.can_mac.specs.declared.phase.Role.TheVariants.{Receiver, Sender}
use Rattle.can_mac.specs.declared.phase.Phase.TheVariants.{Idle, StuffedPart, CrcDelimiter}
use Rattle.can_mac.specs.State.{MacPhase, MacState}
use Rattle.can_mac.specs.Moves.{MacMove, part_phase, reading_of, agrees, hears, in_arbitration, stuff_error_move, stuff_bit_move, sent_bit_move, bit_move, stuffed_part_move, ends_part}
use Rattle.can_mac.specs.Machine.{mac_step, part_drives, on_step}
use Rattle.can_mac.specs.Frames.{with_intermission, behind_part, own_reading, end_phases, phase_at}
use Rattle.can_mac.proofs.PartEnds.{ends_part-ended, ends_part-partial, agrees-Decides}
use Rattle.can_mac.proofs.FrameEnds.{end_levels}

-- a transmitter drives this level; a receiver takes any
abbrev pub Takes : Role → FrontParts → Level → Type 0
Takes Receiver front x = Unit {0}
Takes (Sender g) front x = part_drives (Sender g) front ≡ x

-- a controller in a frame's stuffed part
abbrev pub part_state : MacPhase → Role → Overloads → ConfineParts → MacState
part_state phase role overloads c = record { phase = phase; role = role; overloads = overloads; counters = c }

sent-seen : (s : Stance) (g : Parts) (front : FrontParts) (driven x : Level) → driven ≡ x → sent_bit_move s g front driven x ≡ hears s front x
sent-seen s g front Dominant Dominant e = refl
sent-seen s g front Recessive Recessive e = refl
sent-seen s g front Dominant Recessive e = cc
sent-seen s g front Recessive Dominant e = cc

module _ (passive : Bool) (overloads : Overloads) (front : FrontParts) where
  abbrev acting : Role → Stance
  acting role = record { passive = passive; role = role; overloads = overloads }

  bit-hears : (role : Role) (x : Level) → eqb front.run 5 ≡ false → Takes role front x → bit_move (acting role) role front x ≡ hears (acting role) front x
  bit-hears Receiver x free takes = refl
  bit-hears (Sender g) x free takes =
      sent-seen (acting (Sender g)) g front (sent_level g (length front.unstuffed)) x
      (sym (cond-false (eqb front.run 5) _ (sent_level g (length front.unstuffed)) free) ∙ takes)

  part-hears : (role : Role) (x : Level) → is_stuff_error front x ≡ false → Takes role front x → stuffed_part_move (acting role) front x ≡ hears (acting role) front x
  part-hears role x no_error takes =
      cond_both {A = MacMove} (eqb front.run 5) (stuff_bit_move (acting role) front x) (bit_move (acting role) role front x) (λ v. v ≡ hears (acting role) front x)
      (λ due. cond-false (same x front.last) (stuff_error_move (acting role) front x) (hears (acting role) front x) (ap (λ b. b && same x front.last) (sym due) ∙ no_error))
      (λ free. bit-hears role x free takes)

  part-loses : (g : Parts) → front.run ≢ 5 → sent_level g (length front.unstuffed) ≡ Recessive → length front.unstuffed ≤ rtr_place g.id.extended
      → stuffed_part_move (acting (Sender g)) front Dominant ≡ record (hears (acting (Sender g)) front Dominant) { role = Receiver; event = Some Lost }
  part-loses g free sent within =
      cond-false (eqb front.run 5) (stuff_bit_move (acting (Sender g)) front Dominant) _ (ne_eqb front.run 5 free)
      ∙ ap (λ d. sent_bit_move (acting (Sender g)) g front d Dominant) sent
      ∙ cond-true (in_arbitration g front.unstuffed) _ _ (le-leb (length front.unstuffed) (rtr_place g.id.extended) within)

-- the step at a level that is taken, and at one that loses arbitration
module _ (front : FrontParts) (overloads : Overloads) (c : ConfineParts) (waiting : Option Parts) where
  pub step-hears : (role : Role) (x : Level) → is_stuff_error front x ≡ false → Takes role front x
      → mac_step (part_state (StuffedPart front) role overloads c) waiting x ≡ (part_state (part_phase (heard_level front x)) role overloads c, None)
  unfolding mac_step
  step-hears role x no_error takes = ap (on_step (part_state (StuffedPart front) role overloads c)) (part-hears _ overloads front role x no_error takes)

  pub step-loses : (g : Parts) → front.run ≢ 5 → sent_level g (length front.unstuffed) ≡ Recessive → length front.unstuffed ≤ rtr_place g.id.extended
      → mac_step (part_state (StuffedPart front) (Sender g) overloads c) waiting Dominant ≡ (part_state (part_phase (heard_level front Dominant)) Receiver overloads c, Some Lost)
  unfolding mac_step
  step-loses g free sent within = ap (on_step (part_state (StuffedPart front) (Sender g) overloads c)) (part-loses _ overloads front g free sent within)

-- the phases of a frame, and its levels on the bus
module _ (f : Parts) where
  abbrev n : ℕ
  n = length (stuffed_part f)

  pub line-parts : with_intermission f ≡ stuffed_part f ++ end_levels
  line-parts = append_assoc (stuffed_part f) (tail Dominant Recessive) (Recessive ∷ Recessive ∷ Recessive ∷ [])

  pub length-wire : length (wire f) ≡ n + 10
  length-wire = length-append (stuffed_part f) (tail Dominant Recessive)

  pub length-with_intermission : length (with_intermission f) ≡ n + 13
  length-with_intermission = ap length line-parts ∙ length-append (stuffed_part f) end_levels

  pub line-early : (o : ℕ) → o < n → level_at (with_intermission f) o ≡ level_at (stuffed_part f) o
  line-early o more = ap (λ l. level_at l o) line-parts ∙ level_at-append (stuffed_part f) end_levels o more

  pub line-late : (o : ℕ) → n ≤ o → level_at (with_intermission f) o ≡ level_at end_levels (behind_part f o)
  line-late o past = ap (λ l. level_at l o) line-parts ∙ level_at-behind (stuffed_part f) end_levels o past

  pub phase-late : (o : ℕ) → n ≤ o → phase_at f o ≡ slice_index_or (end_phases (own_reading f)) (behind_part f o) Idle
  phase-late o past = cond-false (ltb o n) _ _ (le-ltb o n past)

  module _ (is : IsFrame f) where
    own-agrees : agrees (unstuffed f) ≡ true
    own-agrees = (agrees-Decides (unstuffed f)).1 (unstuffed-agrees f)

    own-read : reading_of (unstuffed f) ≡ own_reading f
    own-read = rw (frame_of-unstuffed f is, own-agrees) refl

    pub phase-early : (o : ℕ) → 0 < o → o < n → phase_at f o ≡ StuffedPart (front_at f o)
    phase-early o some more = cond-true (ltb o n) _ _ (lt-ltb o n more) ∙ ap (λ v. StuffedPart (unwrap_or v first_front)) (front_at-heard f is o some (omega (arith, more)))

    -- the front of the first o levels makes the phase
    pub part_phase-at : (o : ℕ) → 0 < o → o ≤ n → part_phase (front_at f o) ≡ phase_at f o
    part_phase-at o some within = elim (cases_lt o n) [
      | inl more ↦ cond-false (ends_part (front_at f o)) _ (StuffedPart (front_at f o)) (ends_part-partial (front_at f o) (front_at-going f is o some more)) ∙ sym (phase-early o some more)
      | inr past ↦
          let all : o ≡ n = omega (arith, within, past) in
          let none : behind_part f n ≡ 0 = omega arith in
          ap (λ k. part_phase (front_at f k)) all
          ∙ cond-true (ends_part (front_at f n)) (CrcDelimiter (reading_of (front_at f n).unstuffed)) _ (ends_part-ended (front_at f n) (front_at-ended f is))
          ∙ ap (λ u. CrcDelimiter (reading_of u)) (front_at-unstuffed f is)
          ∙ ap CrcDelimiter own-read
          ∙ sym (ap (phase_at f) all ∙ phase-late n (omega arith) ∙ ap (λ k. slice_index_or (end_phases (own_reading f)) k Idle) none)
    ]
