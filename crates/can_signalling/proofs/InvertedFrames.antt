-- A frame as it is sent, of which a controller samples one level inverted: its transmitter, and a receiver after the stuffed part.
use Rattle.std.proofs.Common.{◌≡◌, ◌≢◌, ◌+◌, ℕ, zero, suc, ◌<◌, ◌≤◌, ◌⊎◌, true, false, Option, Some, None, List, length, refl, sym, ◌∙◌, ap, subst, arith, cond, inl, inr}
use Rattle.std.proofs.Math.Dec.{eqb, ltb}
use Rattle.std.specs.Prelude.{slice_index_or}
use Rattle.std.proofs.lemmas.Bool.{eq-eqb, le-ltb, cases_lt, cases_eq, cond-true, cond-false, cond_both, lt-ltb, ne_eqb}
use Rattle.can_frame.specs.declared.level.Level.{Level}
use Rattle.can_frame.specs.declared.level.Level.TheVariants.{Dominant, Recessive}
use Rattle.can_frame.specs.Levels.{opposite}
use Rattle.can_frame.specs.Parts.{Parts, IsFrame}
use Rattle.can_wire.specs.Wire.{unstuffed, stuffed_part, wire}
use Rattle.can_wire.specs.Layout.{level_at}
use Rattle.can_code.proofs.StuffedParts.{IsPart-length}
use Rattle.can_code.proofs.UnstuffedLevels.{stuffed_part-part}
use Rattle.can_fault.specs.declared.cause.Cause.TheVariants.{ReceiverError, FrameReceived}
use Rattle.can_fault.specs.Counters.{ConfineParts, counted}
use Rattle.can_terms.specs.declared.event.Event.{Event}
use Rattle.can_terms.specs.declared.event.Event.TheVariants.{Error, Sent, Received}
use Rattle.can_terms.specs.declared.event.ErrorKind.{ErrorKind}
use Rattle.can_terms.specs.declared.event.ErrorKind.TheVariants.{Bit, Ack}
use Rattle.can_mac.specs.declared.phase.Overloads.{Overloads}
use Rattle.can_mac.specs.declared.phase.Reading.{Reading}
use Rattle.can_mac.specs.declared.phase.Role.TheVariants.{Receiver, Sender}
use Rattle.can_mac.specs.declared.phase.Phase.TheVariants.{Idle, StuffedPart, AckSlot, ErrorFlag}
use Rattle.can_mac.specs.State.{MacState, IsFrameOrNone}
use Rattle.can_mac.specs.Moves.{errs, in_arbitration}
use Rattle.can_mac.specs.Machine.{mac_drives, mac_step, on_step, stance}
use Rattle.can_mac.specs.Frames.{state_after, told_at, with_intermission, behind_part, heard_front, own_reading, end_phases, role_at, role_after, counters_after, frame_state, frame_event, loss, end_event, IsActive, GoesBehind, StartsWith, AreHeard}
use Rattle.can_mac.proofs.FrameEnds.{end_levels}
use Rattle.can_mac.proofs.FrameParts.{part_state, length-wire, length-with_intermission, line-late, phase-late}
use Rattle.can_mac.proofs.FrameRoles.{role-own}
use Rattle.can_mac.proofs.FrameRuns.{state_after-frame, told_at-frame}
use Rattle.can_mac.proofs.FrameDrives.{sender-drives-line}
use Rattle.can_detection.specs.WrongBit.{inverted_at}
use Rattle.can_signalling.specs.Signalling.{SignalsFirst, IsTransmitter, IsFixedForm, crc_delimiter, ack_delimiter, end_of_frame, IsOwnBit, own_bit_error, sender_error, fixed_form_error, flagging, IsReady}
use Rattle.can_signalling.proofs.Errors.{errs-lands}
use Rattle.can_signalling.proofs.FrameLevels.{inverted_at-other, inverted_at-here}
use Rattle.can_signalling.proofs.Transmitters.{transmitter-part, transmitter-slot, transmitter-dominant}
use Rattle.can_signalling.proofs.AfterPart.{Detects, active-received, delimiter-step, ending-step}

-- equal levels so far lead to the same state
state_after-same : (m : MacState) (waits : ℕ → Option Parts) (a b : List Level) (o : ℕ) → ((i : ℕ) → i < o → level_at a i ≡ level_at b i) → state_after m waits a o ≡ state_after m waits b o
state_after-same m waits a b zero same = refl
state_after-same m waits a b (suc o) same =
    ap (λ s. (mac_step s (waits o) (level_at a o)).0) (state_after-same m waits a b o (λ i less. same i (omega arith)))
    ∙ ap (λ x. (mac_step (state_after m waits b o) (waits o) x).0) (same o (omega arith))

-- the phases after the stuffed part
form_at : (r : Reading) (k : ℕ) → k < 10 → k ≢ 1 → IsFixedForm (slice_index_or (end_phases r) k Idle)
form_at r zero few other = crc_delimiter r
form_at r (suc zero) few other = absurd (other refl)
form_at r (suc (suc zero)) few other = ack_delimiter r
form_at r (suc (suc (suc zero))) few other = end_of_frame r 0
form_at r (suc (suc (suc (suc zero)))) few other = end_of_frame r 1
form_at r (suc (suc (suc (suc (suc zero))))) few other = end_of_frame r 2
form_at r (suc (suc (suc (suc (suc (suc zero)))))) few other = end_of_frame r 3
form_at r (suc (suc (suc (suc (suc (suc (suc zero))))))) few other = end_of_frame r 4
form_at r (suc (suc (suc (suc (suc (suc (suc (suc zero)))))))) few other = end_of_frame r 5
form_at r (suc (suc (suc (suc (suc (suc (suc (suc (suc zero))))))))) few other = end_of_frame r 6
form_at r (suc (suc (suc (suc (suc (suc (suc (suc (suc (suc k)))))))))) few other = absurd (omega arith)

slot-detects : (o : Overloads) (c : ConfineParts) → IsActive c → (w : Option Parts) (r : Reading) → r.agrees ≡ true → Detects o c w (AckSlot r) Recessive Bit
unfolding mac_step
slot-detects o c active w r agreed =
    let m = part_state (AckSlot r) Receiver o c in
    ap (on_step m) (cond-true r.agrees (errs (stance m) Bit) _ agreed) ∙ errs-lands Receiver c active (AckSlot r) o Bit

-- of these a receiver's errors, at the first nine levels inverted
receiver-detects : (o : Overloads) (c : ConfineParts) → IsActive c → (w : Option Parts) (r : Reading) → r.agrees ≡ true → (k : ℕ) → k < 9
    → Detects o c w (slice_index_or (end_phases r) k Idle) (opposite (level_at end_levels k)) (fixed_form_error k)
receiver-detects o c active w r agreed zero few = delimiter-step o c active w r
receiver-detects o c active w r agreed (suc zero) few = slot-detects o c active w r agreed
receiver-detects o c active w r agreed (suc (suc zero)) few = ending-step o c active w r 0 (omega arith)
receiver-detects o c active w r agreed (suc (suc (suc zero))) few = ending-step o c active w r 1 (omega arith)
receiver-detects o c active w r agreed (suc (suc (suc (suc zero)))) few = ending-step o c active w r 2 (omega arith)
receiver-detects o c active w r agreed (suc (suc (suc (suc (suc zero))))) few = ending-step o c active w r 3 (omega arith)
receiver-detects o c active w r agreed (suc (suc (suc (suc (suc (suc zero)))))) few = ending-step o c active w r 4 (omega arith)
receiver-detects o c active w r agreed (suc (suc (suc (suc (suc (suc (suc zero))))))) few = ending-step o c active w r 5 (omega arith)
receiver-detects o c active w r agreed (suc (suc (suc (suc (suc (suc (suc (suc zero)))))))) few = ending-step o c active w r 6 (omega arith)
receiver-detects o c active w r agreed (suc (suc (suc (suc (suc (suc (suc (suc (suc k))))))))) few = absurd (omega arith)

-- the levels there are recessive
recessive_end : (k : ℕ) → k < 10 → k ≢ 1 → opposite (level_at end_levels k) ≡ Dominant
recessive_end zero few other = refl
recessive_end (suc zero) few other = absurd (other refl)
recessive_end (suc (suc zero)) few other = refl
recessive_end (suc (suc (suc zero))) few other = refl
recessive_end (suc (suc (suc (suc zero)))) few other = refl
recessive_end (suc (suc (suc (suc (suc zero))))) few other = refl
recessive_end (suc (suc (suc (suc (suc (suc zero)))))) few other = refl
recessive_end (suc (suc (suc (suc (suc (suc (suc zero))))))) few other = refl
recessive_end (suc (suc (suc (suc (suc (suc (suc (suc zero)))))))) few other = refl
recessive_end (suc (suc (suc (suc (suc (suc (suc (suc (suc zero))))))))) few other = refl
recessive_end (suc (suc (suc (suc (suc (suc (suc (suc (suc (suc k)))))))))) few other = absurd (omega arith)

-- level o of f, inverted, at a controller that takes part from the start of f
module _ (f : Parts) (m : MacState) (waits : ℕ → Option Parts) (o : ℕ) (start : StartsWith f m (waits 0)) (some : 0 < o) (within : o < length (wire f)) where
  abbrev n : ℕ
  n = length (stuffed_part f)

  abbrev k : ℕ
  k = behind_part f o

  abbrev line : List Level
  line = with_intermission f

  abbrev levels : List Level
  levels = inverted_at o line

  abbrev c : ConfineParts
  c = m.counters

  abbrev wishes : Overloads
  wishes = record { pending = m.overloads.pending; used = 0 }

  heard_at : (i : ℕ) → 0 < i → i < length (wire f) → AreHeard f m i
  heard_at i first last = record {
    some = first;
    within = omega (arith, last, length-wire f, length-with_intermission f);
    no_wish = λ past. absurd (omega (arith, past, last));
  }

  kept : (i : ℕ) → i < o → level_at levels i ≡ level_at line i
  kept i less = inverted_at-other line o i (λ e. omega (arith, e, less))

  wrong : level_at levels o ≡ opposite (level_at line o)
  wrong = inverted_at-here line o (omega (arith, within, length-wire f, length-with_intermission f))

  -- so its state and its events are those of the frame
  state_is : state_after m waits levels o ≡ frame_state f (waits 0) m.overloads.pending c o
  state_is = state_after-same m waits levels line o kept ∙ state_after-frame f m waits start o (heard_at o some within)

  told_is : (i : ℕ) → i < o → told_at m waits levels i ≡ frame_event f (waits 0) i
  told_is i less =
      ap (λ s. (mac_step s (waits i) (level_at levels i)).1) (state_after-same m waits levels line i (λ j before. kept j (omega (arith, before, less))))
      ∙ ap (λ x. (mac_step (state_after m waits line i) (waits i) x).1) (kept i less)
      ∙ told_at-frame f m waits start i (heard_at (i + 1) (omega arith) (omega (arith, less, within)))

  -- no event before, if none of the frame
  pub first-error : (kind : ErrorKind) → ((i : ℕ) → i < o → frame_event f (waits 0) i ≡ None) → (next : MacState) → next.phase ≡ ErrorFlag 0
      → mac_step (state_after m waits levels o) (waits o) (level_at levels o) ≡ (next, Some (Error kind)) → SignalsFirst m waits (inverted_at o (with_intermission f)) o kind
  first-error kind none next flag step = record {
    silent = λ i less. told_is i less ∙ none i less;
    told = ap (λ r. r.1) step;
    flag = ap (λ r. r.0.phase) step ∙ flag;
  }

  past_level : n ≤ o → level_at levels o ≡ opposite (level_at end_levels k)
  past_level past = wrong ∙ ap opposite (line-late f o past)

  -- ---- its transmitter
  module _ (own : waits 0 ≡ Some f) where
    sender_state : state_after m waits levels o ≡ frame_state f (Some f) m.overloads.pending c o
    sender_state = state_is ∙ ap (λ w. frame_state f w m.overloads.pending c o) own

    sender_event : (i : ℕ) → i < o → frame_event f (waits 0) i ≡ None
    sender_event i less =
        let behind = behind_part f i in
        ap (λ w. frame_event f w i) own
        ∙ cond_both {A = Option Event} (ltb i n) (loss (role_at f (Some f) i) (role_at f (Some f) (i + 1))) (end_event f (role_at f (Some f) i) behind) (λ e. e ≡ None)
        (λ early. ap (λ r. loss r (role_at f (Some f) (i + 1))) (role-own f i) ∙ ap (loss (Sender f)) (role-own f (i + 1)))
        (λ late. ap (λ r. end_event f r behind) (role-own f i) ∙ cond-false (eqb behind 9) (Some (Sent f)) None (ne_eqb behind 9 (λ nine. omega (arith, nine, less, within, length-wire f))))

    is_transmitter : IsTransmitter f (state_after m waits levels o)
    is_transmitter =
        let few : k < 10 = omega (arith, within, length-wire f) in
        record {
          role =
              ap (λ s. s.role) sender_state
              ∙ ap (λ r. role_after r k) (role-own f o)
              ∙ cond-true (ltb k 13) (Sender f) Receiver (lt-ltb k 13 (omega (arith, few)));
          active =
              subst IsActive
              (sym (ap (λ s. s.counters) sender_state ∙ ap (λ r. counters_after r c k) (role-own f o) ∙ cond-true (ltb k 10) c _ (lt-ltb k 10 few))) start.active;
        }

    sender_early : o < n → (in_arbitration f (heard_front f o).unstuffed ≡ false) ⊎ (level_at line o ≡ Dominant) → SignalsFirst m waits levels o (own_bit_error (heard_front f o))
    sender_early more past =
        let s = state_after m waits levels o in
        let v = heard_front f o in
        let phase : s.phase ≡ StuffedPart v = ap (λ t. t.phase) sender_state ∙ cond-true (ltb o n) (StuffedPart v) _ (lt-ltb o n more) in
        let drives : mac_drives s (waits o) ≡ level_at line o =
        ap (λ t. mac_drives t (waits o)) (state_after-same m waits levels line o kept)
        ∙ sender-drives-line f m waits start o (heard_at (o + 1) (omega arith) (omega (arith, more, length-wire f))) own (λ slot. omega (arith, slot, more)) in
        first-error (own_bit_error v) sender_event (flagging s) refl
        (ap (mac_step s (waits o)) (wrong ∙ ap opposite (sym drives)) ∙ transmitter-part f s is_transmitter v (waits o) phase (subst (λ x. (in_arbitration f v.unstuffed ≡ false) ⊎ (x ≡ Dominant)) (sym drives) past))

    sender_late : n ≤ o → SignalsFirst m waits levels o (cond (eqb k 1) Ack Bit)
    sender_late past =
        let s = state_after m waits levels o in
        let phase : s.phase ≡ slice_index_or (end_phases (own_reading f)) k Idle = ap (λ t. t.phase) sender_state ∙ phase-late f o past in
        elim (cases_eq k 1) [
          | inl one ↦
              let slot : s.phase ≡ AckSlot (own_reading f) = phase ∙ ap (λ i. slice_index_or (end_phases (own_reading f)) i Idle) one in
              let seen : level_at levels o ≡ Recessive = past_level past ∙ ap (λ i. opposite (level_at end_levels i)) one in
              subst (SignalsFirst m waits levels o) (sym (cond-true (eqb k 1) Ack Bit (eq-eqb k 1 one)))
              (first-error Ack sender_event (flagging s) refl (ap (mac_step s (waits o)) seen ∙ transmitter-slot f s is_transmitter (own_reading f) (waits o) slot))
          | inr other ↦
              let few : k < 10 = omega (arith, within, length-wire f) in
              let form : IsFixedForm s.phase = subst IsFixedForm (sym phase) (form_at (own_reading f) k few other) in
              let seen : level_at levels o ≡ Dominant = past_level past ∙ recessive_end k few other in
              subst (SignalsFirst m waits levels o) (sym (cond-false (eqb k 1) Ack Bit (ne_eqb k 1 other)))
              (first-error Bit sender_event (flagging s) refl (ap (mac_step s (waits o)) seen ∙ transmitter-dominant f s is_transmitter (waits o) form))
        ]

    pub sender-signals : IsOwnBit f o → SignalsFirst m waits (inverted_at o (with_intermission f)) o (sender_error f o)
    sender-signals bit =
        let v = heard_front f o in
        let late = cond (eqb k 1) Ack Bit in
        elim (cases_lt o n) [
          | inr past ↦ subst (SignalsFirst m waits levels o) (sym (cond-false (ltb o n) (own_bit_error v) late (le-ltb o n (omega arith)))) (sender_late (omega arith))
          | inl more ↦ subst (SignalsFirst m waits levels o) (sym (cond-true (ltb o n) (own_bit_error v) late (lt-ltb o n more))) (sender_early more (still more bit))
        ]
      where
        still : o < n → IsOwnBit f o → (in_arbitration f (heard_front f o).unstuffed ≡ false) ⊎ (level_at line o ≡ Dominant)
        still more (inl behind) = inl (behind more)
        still more (inr dominant) = inr dominant

  -- ---- a receiver, after the stuffed part
  module _ (none : waits 0 ≡ None) (past : n ≤ o) (early_end : o < n + 9) where
    few_levels : k < 9
    few_levels = omega (arith, early_end, past)

    receiver_state : state_after m waits levels o ≡ part_state (slice_index_or (end_phases (own_reading f)) k Idle) Receiver wishes (counters_after Receiver c k)
    receiver_state =
        state_is ∙ ap (λ w. frame_state f w m.overloads.pending c o) none
        ∙ ap (λ p. part_state p (role_after Receiver k) wishes (counters_after Receiver c k)) (phase-late f o past)
        ∙ ap (λ r. part_state (slice_index_or (end_phases (own_reading f)) k Idle) r wishes (counters_after Receiver c k)) (cond-true (ltb k 13) Receiver Receiver (lt-ltb k 13 (omega (arith, few_levels))))

    receiver_event : (i : ℕ) → i < o → frame_event f (waits 0) i ≡ None
    receiver_event i less =
        let behind = behind_part f i in
        ap (λ w. frame_event f w i) none
        ∙ cond_both {A = Option Event} (ltb i n) None (end_event f Receiver behind) (λ e. e ≡ None) (λ early. refl)
        (λ late. cond-false (eqb behind 8) (Some (Received f)) None (ne_eqb behind 8 (λ eight. omega (arith, eight, less, early_end))))

    receiver_active : IsActive (counters_after Receiver c k)
    receiver_active = cond_both (ltb k 2) c (counted FrameReceived c) IsActive (λ e. start.active) (λ e. active-received c start.active)

    pub receiver-form : SignalsFirst m waits (inverted_at o (with_intermission f)) o (fixed_form_error (behind_part f o))
    receiver-form =
        first-error (fixed_form_error k) receiver_event (part_state (ErrorFlag 0) Receiver wishes (counted ReceiverError (counters_after Receiver c k))) refl
        (ap (λ s. mac_step s (waits o) (level_at levels o)) receiver_state
        ∙ ap (mac_step (part_state (slice_index_or (end_phases (own_reading f)) k Idle) Receiver wishes (counters_after Receiver c k)) (waits o)) (past_level past)
        ∙ receiver-detects wishes (counters_after Receiver c k) receiver_active (waits o) (own_reading f) refl k few_levels)

-- a receiver that is ready as f starts
pub ready-form : (f : Parts) (m : MacState) (waits : ℕ → Option Parts) (o : ℕ) → IsFrame f → IsReady m waits → length (stuffed_part f) ≤ o → o < length (stuffed_part f) + 9
    → SignalsFirst m waits (inverted_at o (with_intermission f)) o (fixed_form_error (behind_part f o))
ready-form f m waits o is ready past early_end =
    let start : StartsWith f m (waits 0) = record {
      frame = is;
      idle = ready.idle;
      active = ready.active;
      kept = subst IsFrameOrNone (sym ready.none) tt;
      behind = subst (GoesBehind f) (sym ready.none) tt;
    } in
    receiver-form f m waits o start (omega (arith, past, IsPart-length (unstuffed f) (stuffed_part f) (stuffed_part-part f is))) (omega (arith, early_end, length-wire f)) ready.none past early_end
