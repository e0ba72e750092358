-- Each move keeps what holds of every controller.
use Rattle.std.proofs.Common.{◌≡◌, ◌≢◌, ℕ, ◌+◌, ◌-◌, [], ◌∷◌, ◌++◌, ◌<◌, ◌≤◌, Bool, true, false, Option, Some, None, length, refl, arith, cond}
use Rattle.std.specs.Prelude.{◌&&◌}
use Rattle.std.proofs.Math.Dec.{eqb, ltb}
use Rattle.std.proofs.lemmas.Bool.{and_parts, cond_both, ltb-true, ltb-false, eqb-true, eqb-false}
use Rattle.can_frame.specs.declared.level.Level.{Level}
use Rattle.can_frame.specs.declared.level.Level.TheVariants.{Dominant, Recessive}
use Rattle.can_frame.specs.Levels.{same, is_recessive}
use Rattle.can_frame.specs.Parts.{Parts, IsFrame}
use Rattle.can_wire.specs.Stuffing.{run_after}
use Rattle.can_code.specs.Front.{FrontParts, IsFront, first_front, has_check, heard_level}
use Rattle.can_code.specs.Sending.{sent_level}
use Rattle.can_code.proofs.LayoutWrite.{IsFrame-frame_of}
use Rattle.can_code.proofs.FrontLemmas.{IsFront-first_front, IsFront-stuff_bit, IsFront-bit, next_place-partial, next_place-ended, next_place-first_front}
use Rattle.can_fault.specs.declared.cause.Cause.{Cause}
use Rattle.can_fault.specs.declared.cause.Cause.TheVariants.{FrameSent, FrameReceived}
use Rattle.can_terms.specs.declared.event.Event.TheVariants.{Sent, Received, Lost}
use Rattle.can_terms.specs.declared.event.ErrorKind.{ErrorKind}
use Rattle.can_terms.specs.declared.event.ErrorKind.TheVariants.{Bit as bit_error, Crc, Form, Stuff, Ack}
use Rattle.can_mac.specs.declared.moves.Stance.{Stance}
use Rattle.can_mac.specs.declared.phase.Overloads.{Overloads}
use Rattle.can_mac.specs.declared.phase.Reading.{Reading}
use Rattle.can_mac.specs.declared.phase.Role.{Role}
use Rattle.can_mac.specs.declared.phase.Role.TheVariants.{Receiver, Sender}
use Rattle.can_mac.specs.declared.phase.Phase.TheVariants.{Joining, Idle, StuffedPart, CrcDelimiter, AckSlot, AckDelimiter, EndOfFrame, ErrorFlag, PassiveFlag, OverloadFlag, AfterFlag, Delimiter, Intermission, Suspend, BusOff}
use Rattle.can_mac.specs.State.{MacPhase, IsOpen, IsPhase, IsRole, IsFrameOrNone, is_off_phase}
use Rattle.can_mac.specs.Moves.{MacMove, goes, tells, begins_frame, overload, flag, errs_by, errs, errs_in_flag, error_cause, flag_bit_cause, form_kind, joining_move, idle_move, reading_of, ends_part, part_phase, hears, in_arbitration, is_uncounted, stuff_error_move, stuff_bit_move, sent_bit_move, bit_move, stuffed_part_move, crc_delimiter_move, ack_slot_move, refuses, ack_delimiter_move, enters_intermission, sender_end_move, receiver_end_move, end_of_frame_move, error_flag_move, overload_flag_move, passive_flag_move, after_flag_move, delimiter_move, is_held_back, next_role, intermission_move, suspend_move, move}

-- what a move keeps
pub record Keeps (p : MacPhase) (r : Role) (o : Overloads) : Type 0 where
  pub phase : IsPhase p
  pub on : is_off_phase p ≡ false
  pub role : IsRole r
  pub pending : o.pending ≤ 2
  pub used : o.used ≤ 2

abbrev pub IsKept : MacMove → Type 0
IsKept v = Keeps v.phase v.role v.overloads

-- in both cases of a test
both : (b : Bool) (v w : MacMove) → (b ≡ true → IsKept v) → (b ≡ false → IsKept w) → IsKept (cond b v w)
both b v w first other = cond_both b v w IsKept first other

-- below a bound, or not
below : (n k : ℕ) (v w : MacMove) → (n < k → IsKept v) → (k ≤ n → IsKept w) → IsKept (cond (ltb n k) v w)
below n k v w first other = both (ltb n k) v w (λ h. first (ltb-true n k h)) (λ h. other (ltb-false n k h))

-- The front of a frame.

first_open : IsOpen first_front
first_open = record { front = IsFront-first_front; goes_on = next_place-first_front }

heard_front : (f : FrontParts) (x : Level) → IsOpen f → IsFront (heard_level f x)
heard_front f x h =
    let due : FrontParts = record { unstuffed = f.unstuffed; last = x; run = 1 } in
    let bit : FrontParts = record { unstuffed = f.unstuffed ++ x ∷ []; last = x; run = run_after f.last f.run x } in
    cond_both (eqb f.run 5) due bit IsFront
    (λ e. IsFront-stuff_bit f h.front x)
    (λ e. let not_due : f.run ≢ 5 = eqb-false f.run 5 e in IsFront-bit f h.front not_due (next_place-partial f h.goes_on not_due) x)

-- a front whose stuffed part has not ended
part_open : (f : FrontParts) → IsFront f → ends_part f ≡ false → IsOpen f
part_open f h e = record { front = h; goes_on = λ ended_at. contrary (next_place-ended f ended_at) }
  where
    contrary : (f.run ≢ 5) × (has_check f.unstuffed ≡ true) → ⊥
    contrary p = cc (p.1, e, not_due (eqb f.run 5) refl p.0)
      where
        not_due : (b : Bool) → eqb f.run 5 ≡ b → f.run ≢ 5 → eqb f.run 5 ≡ false
        not_due true d q = absurd (q (eqb-true f.run 5 d))
        not_due false d q = d

part_kept : (f : FrontParts) → IsFront f → IsPhase (part_phase f) × (is_off_phase (part_phase f) ≡ false)
part_kept f h =
    let P : MacPhase → Type 0 = λ p. IsPhase p × (is_off_phase p ≡ false) in
    cond_both (ends_part f) (CrcDelimiter (reading_of f.unstuffed)) (StuffedPart f) P
    (λ e. (IsFrame-frame_of f.unstuffed, refl)) (λ e. (part_open f h e, refl))

flag_kept : (passive unacknowledged : Bool) → IsPhase (flag passive unacknowledged) × (is_off_phase (flag passive unacknowledged) ≡ false)
flag_kept true unacknowledged = (omega arith, refl)
flag_kept false unacknowledged = (omega arith, refl)

module _ (s : Stance) (role : IsRole s.role) (pending : s.overloads.pending ≤ 2) (used : s.overloads.used ≤ 2) where
  goes_kept : (p : MacPhase) → IsPhase p → is_off_phase p ≡ false → Keeps p s.role s.overloads
  goes_kept p h on = record { phase = h; on = on; role = role; pending = pending; used = used }

  begins_kept : (r : Role) → IsRole r → IsKept (begins_frame s r)
  begins_kept r h = record { phase = first_open; on = refl; role = h; pending = pending; used = omega arith }

  overload_kept : IsKept (overload s)
  overload_kept = goes_kept (OverloadFlag 0) (omega arith) refl

  errs_kept : (cause : Option Cause) (unacknowledged : Bool) (kind : ErrorKind) → IsKept (errs_by cause unacknowledged s kind)
  errs_kept cause unacknowledged kind =
      let f = flag_kept s.passive unacknowledged in goes_kept (flag s.passive unacknowledged) f.0 f.1

  rests_kept : Keeps Idle Receiver s.overloads
  rests_kept = record { phase = tt; on = refl; role = tt; pending = pending; used = used }

  joining_kept : (row : ℕ) (x : Level) → IsKept (joining_move s row x)
  joining_kept row Dominant = goes_kept (Joining 0) (omega arith) refl
  joining_kept row Recessive =
      below row 10 (goes s (Joining (row + 1))) (goes s Idle) (λ h. goes_kept (Joining (row + 1)) (omega arith) refl) (λ h. goes_kept Idle tt refl)

  hears_kept : (f : FrontParts) (x : Level) → IsOpen f → IsKept (hears s f x)
  hears_kept f x h = let p = part_kept (heard_level f x) (heard_front f x h) in goes_kept (part_phase (heard_level f x)) p.0 p.1

  stuff_error_kept : (f : FrontParts) (x : Level) → IsKept (stuff_error_move s f x)
  stuff_error_kept f x =
      both (is_uncounted s.role f.unstuffed x) (errs_by None false s Stuff) (errs s Stuff) (λ h. errs_kept None false Stuff)
      (λ h. errs_kept (Some (error_cause s.role)) false Stuff)

  error_kept : (kind : ErrorKind) → IsKept (errs s kind)
  error_kept kind = errs_kept (Some (error_cause s.role)) false kind

  sent_bit_kept : (sending : Parts) (f : FrontParts) (sent seen : Level) → IsOpen f → IsKept (sent_bit_move s sending f sent seen)
  sent_bit_kept sending f Dominant Dominant h = hears_kept f Dominant h
  sent_bit_kept sending f Recessive Recessive h = hears_kept f Recessive h
  sent_bit_kept sending f Dominant Recessive h = error_kept bit_error
  sent_bit_kept sending f Recessive Dominant h =
      let kept : IsKept (hears s f Dominant) = hears_kept f Dominant h in
      both (in_arbitration sending f.unstuffed) (record (hears s f Dominant) { role = Receiver; event = Some Lost }) (errs s bit_error)
      (λ e. record { phase = kept.phase; on = kept.on; role = tt; pending = pending; used = used })
      (λ e. error_kept bit_error)

  bit_kept : (r : Role) (f : FrontParts) (x : Level) → IsOpen f → IsKept (bit_move s r f x)
  bit_kept Receiver f x h = hears_kept f x h
  bit_kept (Sender sending) f x h = sent_bit_kept sending f (sent_level sending (length f.unstuffed)) x h

  stuffed_part_kept : (f : FrontParts) (x : Level) → IsOpen f → IsKept (stuffed_part_move s f x)
  stuffed_part_kept f x h =
      both (eqb f.run 5) (stuff_bit_move s f x) (bit_move s s.role f x)
      (λ e. both (same x f.last) (stuff_error_move s f x) (hears s f x) (λ d. stuff_error_kept f x) (λ d. hears_kept f x h))
      (λ e. bit_kept s.role f x h)

  crc_delimiter_kept : (r : Reading) (x : Level) → IsFrame r.frame → IsKept (crc_delimiter_move s r x)
  crc_delimiter_kept r Recessive h = goes_kept (AckSlot r) h refl
  crc_delimiter_kept r Dominant h = error_kept (form_kind s.role)

  ack_slot_kept : (who : Role) (r : Reading) (x : Level) → IsFrame r.frame → IsKept (ack_slot_move s who r x)
  ack_slot_kept (Sender f) r Dominant h = goes_kept (AckDelimiter r) h refl
  ack_slot_kept (Sender f) r Recessive h =
      both s.passive (errs_by None true s Ack) (errs s Ack) (λ e. errs_kept None true Ack) (λ e. error_kept Ack)
  ack_slot_kept Receiver r Dominant h =
      both r.agrees (record (goes s (AckDelimiter r)) { cause = Some FrameReceived }) (goes s (AckDelimiter r))
      (λ e. goes_kept (AckDelimiter r) h refl) (λ e. goes_kept (AckDelimiter r) h refl)
  ack_slot_kept Receiver r Recessive h =
      both r.agrees (errs s bit_error) (goes s (AckDelimiter r)) (λ e. error_kept bit_error) (λ e. goes_kept (AckDelimiter r) h refl)

  ack_delimiter_kept : (r : Reading) (x : Level) → IsFrame r.frame → IsKept (ack_delimiter_move s r x)
  ack_delimiter_kept r Dominant h = error_kept (form_kind s.role)
  ack_delimiter_kept r Recessive h =
      both (refuses s.role r) (errs s Crc) (goes s (EndOfFrame r 0)) (λ e. error_kept Crc) (λ e. goes_kept (EndOfFrame r 0) (h, omega arith) refl)

  enters_kept : (who : Role) → IsKept (enters_intermission s who)
  enters_kept (Sender f) = goes_kept (Intermission 0) (omega arith) refl
  enters_kept Receiver =
      let more : Overloads = record { pending = s.overloads.pending - 1; used = s.overloads.used + 1 } in
      let wants = ltb 0 s.overloads.pending && ltb s.overloads.used 2 in
      both wants (record (overload s) { overloads = more }) (goes s (Intermission 0))
      (λ h. let few : s.overloads.used < 2 = ltb-true s.overloads.used 2 (and_parts (ltb 0 s.overloads.pending) (ltb s.overloads.used 2) h).1 in
      record { phase = omega arith; on = refl; role = role; pending = omega arith; used = omega arith })
      (λ h. goes_kept (Intermission 0) (omega arith) refl)

  sender_end_kept : (f : Parts) (r : Reading) (place : ℕ) (x : Level) → IsFrame r.frame → IsKept (sender_end_move s f r place x)
  sender_end_kept f r place Dominant h = error_kept bit_error
  sender_end_kept f r place Recessive h =
      let kept : IsKept (enters_intermission s s.role) = enters_kept s.role in
      below place 6 (goes s (EndOfFrame r (place + 1))) (record (enters_intermission s s.role) { cause = Some FrameSent; event = Some (Sent f) })
      (λ b. goes_kept (EndOfFrame r (place + 1)) (h, omega arith) refl)
      (λ b. record { phase = kept.phase; on = kept.on; role = kept.role; pending = kept.pending; used = kept.used })

  receiver_end_kept : (r : Reading) (place : ℕ) (x : Level) → IsFrame r.frame → IsKept (receiver_end_move s r place x)
  receiver_end_kept r place Dominant h = below place 6 (errs s Form) (overload s) (λ b. error_kept Form) (λ b. overload_kept)
  receiver_end_kept r place Recessive h =
      below place 5 (goes s (EndOfFrame r (place + 1))) (cond (ltb place 6) (tells s (EndOfFrame r 6) (Received r.frame)) (enters_intermission s s.role))
      (λ b. goes_kept (EndOfFrame r (place + 1)) (h, omega arith) refl)
      (λ b. below place 6 (tells s (EndOfFrame r 6) (Received r.frame)) (enters_intermission s s.role)
      (λ d. goes_kept (EndOfFrame r 6) (h, omega arith) refl) (λ d. enters_kept s.role))

  end_of_frame_kept : (who : Role) (r : Reading) (place : ℕ) (x : Level) → IsFrame r.frame → IsKept (end_of_frame_move s who r place x)
  end_of_frame_kept (Sender f) r place x h = sender_end_kept f r place x h
  end_of_frame_kept Receiver r place x h = receiver_end_kept r place x h

  flag_error_kept : IsKept (errs_in_flag s)
  flag_error_kept = errs_kept (Some (flag_bit_cause s.role)) false bit_error

  error_flag_kept : (place : ℕ) (x : Level) → IsKept (error_flag_move s place x)
  error_flag_kept place Dominant =
      below place 5 (goes s (ErrorFlag (place + 1))) (goes s (AfterFlag true 0)) (λ b. goes_kept (ErrorFlag (place + 1)) (omega arith) refl)
      (λ b. goes_kept (AfterFlag true 0) (omega arith) refl)
  error_flag_kept place Recessive = flag_error_kept

  overload_flag_kept : (place : ℕ) (x : Level) → IsKept (overload_flag_move s place x)
  overload_flag_kept place Dominant =
      below place 5 (goes s (OverloadFlag (place + 1))) (goes s (AfterFlag false 0)) (λ b. goes_kept (OverloadFlag (place + 1)) (omega arith) refl)
      (λ b. goes_kept (AfterFlag false 0) (omega arith) refl)
  overload_flag_kept place Recessive = flag_error_kept

  passive_flag_kept : (last : Level) (run : ℕ) (unacknowledged : Bool) (x : Level) → IsKept (passive_flag_move s last run unacknowledged x)
  passive_flag_kept last run unacknowledged x =
      let longer = run_after last run x in
      let still = unacknowledged && is_recessive x in
      let P : MacPhase → Type 0 = λ p. IsPhase p × (is_off_phase p ≡ false) in
      let p = cond_both (ltb longer 6) (PassiveFlag x longer still) (AfterFlag true 0) P
      (λ b. (ltb-true longer 6 b, refl)) (λ b. (omega arith, refl)) in
      record { phase = p.0; on = p.1; role = role; pending = pending; used = used }

  after_flag_kept : (first : Bool) (dominant : ℕ) (x : Level) → IsKept (after_flag_move s first dominant x)
  after_flag_kept first dominant Recessive = goes_kept (Delimiter 1) (omega arith, omega arith) refl
  after_flag_kept first dominant Dominant =
      let P : ℕ → Type 0 = λ n. n < 8 in
      let more = cond_both (ltb dominant 7) (dominant + 1) 0 P (λ b. let h : dominant < 7 = ltb-true dominant 7 b in omega arith) (λ b. omega arith) in
      record { phase = more; on = refl; role = role; pending = pending; used = used }

  delimiter_kept : (place : ℕ) (x : Level) → 1 ≤ place → IsKept (delimiter_move s place x)
  delimiter_kept place Dominant some = below place 7 (errs s Form) (overload s) (λ b. error_kept Form) (λ b. overload_kept)
  delimiter_kept place Recessive some =
      below place 7 (goes s (Delimiter (place + 1))) (enters_intermission s s.role)
      (λ b. goes_kept (Delimiter (place + 1)) (omega arith, omega arith) refl) (λ b. enters_kept s.role)

  next_role_kept : (held_back : Bool) (waiting : Option Parts) → IsFrameOrNone waiting → IsRole (next_role held_back waiting)
  next_role_kept held_back None h = tt
  next_role_kept true (Some f) h = tt
  next_role_kept false (Some f) h = h

  intermission_kept : (place : ℕ) (waiting : Option Parts) (x : Level) → IsFrameOrNone waiting → IsKept (intermission_move s place waiting x)
  intermission_kept place waiting Dominant h =
      let next = next_role (is_held_back s s.role) waiting in
      below place 2 (overload s) (begins_frame s next) (λ b. overload_kept) (λ b. begins_kept next (next_role_kept (is_held_back s s.role) waiting h))
  intermission_kept place waiting Recessive h =
      let held_back = is_held_back s s.role in
      below place 2 (goes s (Intermission (place + 1))) (cond held_back (goes s (Suspend 0)) (goes (record s { role = Receiver }) Idle))
      (λ b. goes_kept (Intermission (place + 1)) (omega arith) refl)
      (λ b. both held_back (goes s (Suspend 0)) (goes (record s { role = Receiver }) Idle) (λ d. goes_kept (Suspend 0) (omega arith) refl) (λ d. rests_kept))

  suspend_kept : (place : ℕ) (x : Level) → IsKept (suspend_move s place x)
  suspend_kept place Dominant = begins_kept Receiver tt
  suspend_kept place Recessive =
      below place 7 (goes s (Suspend (place + 1))) (goes (record s { role = Receiver }) Idle)
      (λ b. goes_kept (Suspend (place + 1)) (omega arith) refl) (λ b. rests_kept)

  idle_kept : (waiting : Option Parts) (x : Level) → IsFrameOrNone waiting → IsKept (idle_move s waiting x)
  idle_kept None Dominant h = begins_kept Receiver tt
  idle_kept None Recessive h = goes_kept Idle tt refl
  idle_kept (Some f) Dominant h = begins_kept (Sender f) h
  idle_kept (Some f) Recessive h =
      let p = flag_kept s.passive false in record { phase = p.0; on = p.1; role = h; pending = pending; used = used }

  -- each phase but that of a controller off the bus
  pub move_kept : (p : MacPhase) (waiting : Option Parts) (x : Level) → IsPhase p → is_off_phase p ≡ false → IsFrameOrNone waiting → IsKept (move s p waiting x)
  move_kept (Joining row) waiting x h on w = joining_kept row x
  move_kept Idle waiting x h on w = idle_kept waiting x w
  move_kept (StuffedPart front) waiting x h on w = stuffed_part_kept front x h
  move_kept (CrcDelimiter r) waiting x h on w = crc_delimiter_kept r x h
  move_kept (AckSlot r) waiting x h on w = ack_slot_kept s.role r x h
  move_kept (AckDelimiter r) waiting x h on w = ack_delimiter_kept r x h
  move_kept (EndOfFrame r place) waiting x h on w = end_of_frame_kept s.role r place x h.0
  move_kept (ErrorFlag place) waiting x h on w = error_flag_kept place x
  move_kept (PassiveFlag last run unacknowledged) waiting x h on w = passive_flag_kept last run unacknowledged x
  move_kept (OverloadFlag place) waiting x h on w = overload_flag_kept place x
  move_kept (AfterFlag first dominant) waiting x h on w = after_flag_kept first dominant x
  move_kept (Delimiter place) waiting x h on w = delimiter_kept place x h.0
  move_kept (Intermission place) waiting x h on w = intermission_kept place waiting x w
  move_kept (Suspend place) waiting x h on w = suspend_kept place x
  move_kept BusOff waiting x h on w = cc
