-- A bit time of the frame on the bus: what has been received of it, whose frame it is, and the event.
use Rattle.std.proofs.Common.{◌≡◌, ℕ, ◌+◌, ◌-◌, Bool, true, false, cond, Option, Some, None, refl, sym, ◌∙◌, ap, length}
use Rattle.std.specs.Prelude.{◌&&◌}
use Rattle.std.proofs.Math.Dec.{eqb, ltb}
use Rattle.std.proofs.lemmas.Bool.{cond_both}
use Rattle.can_frame.specs.declared.level.Level.{Level}
use Rattle.can_frame.specs.declared.level.Level.TheVariants.{Dominant, Recessive}
use Rattle.can_frame.specs.Levels.{same, is_recessive}
use Rattle.can_frame.specs.Parts.{Parts}
use Rattle.can_wire.specs.Stuffing.{run_after}
use Rattle.can_code.specs.Front.{FrontParts, heard_level}
use Rattle.can_code.specs.Sending.{sent_level}
use Rattle.can_fault.specs.declared.cause.Cause.{Cause}
use Rattle.can_fault.specs.declared.cause.Cause.TheVariants.{FrameSent, FrameReceived}
use Rattle.can_fault.specs.Counters.{ConfineParts, counted, is_bus_off}
use Rattle.can_fault.specs.Recovery.{ends_bus_off, recovered}
use Rattle.can_terms.specs.declared.event.Event.{Event}
use Rattle.can_terms.specs.declared.event.Event.TheVariants.{Sent, Received, Lost, WentOff, Recovered}
use Rattle.can_terms.specs.declared.event.ErrorKind.{ErrorKind}
use Rattle.can_terms.specs.declared.event.ErrorKind.TheVariants.{Bit as bit_error, Crc, Form, Stuff, Ack}
use Rattle.can_mac.specs.declared.moves.Stance.{Stance}
use Rattle.can_mac.specs.declared.phase.Reading.{Reading}
use Rattle.can_mac.specs.declared.phase.Role.{Role}
use Rattle.can_mac.specs.declared.phase.Role.TheVariants.{Receiver, Sender}
use Rattle.can_mac.specs.declared.phase.Phase.TheVariants.{Joining, Idle, StuffedPart, CrcDelimiter, AckSlot, AckDelimiter, EndOfFrame, ErrorFlag, PassiveFlag, OverloadFlag, AfterFlag, Delimiter, Intermission, Suspend, BusOff}
use Rattle.can_mac.specs.State.{MacPhase, MacState, is_off_phase}
use Rattle.can_mac.specs.Moves.{MacMove, error_cause, form_kind, goes, tells, overload, begins_frame, flag, errs_by, errs, errs_in_flag, joining_move, idle_move, reading_of, ends_part, part_phase, hears, in_arbitration, is_uncounted, stuff_error_move, stuff_bit_move, sent_bit_move, bit_move, stuffed_part_move, crc_delimiter_move, ack_slot_move, refuses, ack_delimiter_move, enters_intermission, end_of_frame_move, error_flag_move, overload_flag_move, passive_flag_move, after_flag_move, delimiter_move, is_held_back, next_role, intermission_move, suspend_move, move}
use Rattle.can_mac.specs.Machine.{stance, state_after_move, step_counting, on_step, off_step, mac_step}
use Rattle.can_gates_controller.specs.Following.{KeepsOwn, SeesOwn, IsPhaseBehind, Follows}

abbrev own_frame : Parts → Role → Parts
own_frame d Receiver = d
own_frame d (Sender f) = f

same_sender : (f g : Parts) → Sender f ≡ Sender g → f ≡ g
same_sender f g e = ap (own_frame f) e

flag_next : (p : MacPhase) (role : Role) (waiting : Option Parts) (x : Level) (new : Role) (passive unacknowledged : Bool) → IsPhaseBehind p role waiting x (flag passive unacknowledged) new
flag_next p role waiting x new true unacknowledged = tt
flag_next p role waiting x new false unacknowledged = tt

off_next : (p q : MacPhase) (role : Role) (waiting : Option Parts) (x : Level) (new : Role) → is_off_phase q ≡ true → IsPhaseBehind p role waiting x q new
off_next p BusOff role waiting x new e = tt
off_next p q role waiting x new e = cc e

module _ (s : Stance) (waiting : Option Parts) (x : Level) where
  abbrev FollowsFrom : MacPhase → MacMove → Type 0
  FollowsFrom p v = Follows p s.role waiting x v.phase v.role v.event

  -- in both cases of a test
  either : (p : MacPhase) (b : Bool) (v w : MacMove) → FollowsFrom p v → FollowsFrom p w → FollowsFrom p (cond b v w)
  either p b v w first other = cond_both b v w (FollowsFrom p) (λ e. first) (λ e. other)

  errs_next : (p : MacPhase) (cause : Option Cause) (unacknowledged : Bool) (role : Role) (kind : ErrorKind) → FollowsFrom p (errs_by cause unacknowledged (record s { role = role }) kind)
  errs_next p cause unacknowledged role kind = record { next = flag_next p s.role waiting x role s.passive unacknowledged; told = tt }

  error_next : (p : MacPhase) (kind : ErrorKind) → FollowsFrom p (errs s kind)
  error_next p kind = record { next = flag_next p s.role waiting x s.role s.passive false; told = tt }

  flag_error_next : (p : MacPhase) → FollowsFrom p (errs_in_flag s)
  flag_error_next p = record { next = flag_next p s.role waiting x s.role s.passive false; told = tt }

  -- the stuffed part

  part_next : (front : FrontParts) (new : Role) → KeepsOwn (StuffedPart front) s.role waiting new → SeesOwn (StuffedPart front) x new → IsPhaseBehind (StuffedPart front) s.role waiting x (part_phase (heard_level front x)) new
  part_next front new kept seen =
      let g = heard_level front x in
      cond_both (ends_part g) (CrcDelimiter (reading_of g.unstuffed)) (StuffedPart g) (λ q. IsPhaseBehind (StuffedPart front) s.role waiting x q new) (λ e. (refl, (kept, e))) (λ e. (refl, (kept, seen)))

  hears_next : (front : FrontParts) → SeesOwn (StuffedPart front) x s.role → FollowsFrom (StuffedPart front) (hears s front x)
  hears_next front seen = record { next = part_next front s.role (λ f e. e) seen; told = tt }

  stuff_error_next : (front : FrontParts) → FollowsFrom (StuffedPart front) (stuff_error_move s front x)
  stuff_error_next front = either (StuffedPart front) (is_uncounted s.role front.unstuffed x) (errs_by None false s Stuff) (errs s Stuff) (record { next = flag_next (StuffedPart front) s.role waiting x s.role s.passive false; told = tt }) (error_next (StuffedPart front) Stuff)

  stuff_bit_next : (front : FrontParts) → eqb front.run 5 ≡ true → FollowsFrom (StuffedPart front) (stuff_bit_move s front x)
  stuff_bit_next front is_due = either (StuffedPart front) (same x front.last) (stuff_error_move s front x) (hears s front x) (stuff_error_next front) (hears_next front (λ f e d. cc (sym is_due ∙ d)))

  lost_next : (front : FrontParts) → FollowsFrom (StuffedPart front) (record (hears s front x) { role = Receiver; event = Some Lost })
  lost_next front = record { next = part_next front Receiver (λ f e. cc e) (λ f e d. cc e); told = tt }

  own_seen : (front : FrontParts) (h : Parts) → s.role ≡ Sender h → sent_level h (length front.unstuffed) ≡ x → SeesOwn (StuffedPart front) x s.role
  own_seen front h is sent = λ f e d. sym sent ∙ ap (λ k. sent_level k (length front.unstuffed)) (same_sender h f (sym is ∙ e))

  -- between the frames

  joining_next : (row : ℕ) (y : Level) → FollowsFrom (Joining row) (joining_move s row y)
  joining_next row Dominant = record { next = tt; told = tt }
  joining_next row Recessive = either (Joining row) (ltb row 10) (goes s (Joining (row + 1))) (goes s Idle) (record { next = tt; told = tt }) (record { next = tt; told = tt })

  idle_next : (w : Option Parts) (y : Level) → waiting ≡ w → FollowsFrom Idle (idle_move s w y)
  idle_next None Dominant is = record { next = (refl, ((λ f e. cc e), tt)); told = tt }
  idle_next None Recessive is = record { next = tt; told = tt }
  idle_next (Some g) Dominant is = record { next = (refl, ((λ f e. is ∙ ap Some (same_sender g f e)), tt)); told = tt }
  idle_next (Some g) Recessive is = errs_next Idle (Some (error_cause (Sender g))) false (Sender g) bit_error

  role_next : (held_back : Bool) (w : Option Parts) (f : Parts) → next_role held_back w ≡ Sender f → w ≡ Some f
  role_next held_back None f e = cc e
  role_next true (Some g) f e = cc e
  role_next false (Some g) f e = ap Some (same_sender g f e)

  intermission_next : (place : ℕ) (y : Level) → FollowsFrom (Intermission place) (intermission_move s place waiting y)
  intermission_next place Dominant = either (Intermission place) (ltb place 2) (overload s) (begins_frame s (next_role (is_held_back s s.role) waiting)) (record { next = tt; told = tt }) (record { next = (refl, (role_next (is_held_back s s.role) waiting, tt)); told = tt })
  intermission_next place Recessive =
      either (Intermission place) (ltb place 2) (goes s (Intermission (place + 1))) (cond (is_held_back s s.role) (goes s (Suspend 0)) (goes (record s { role = Receiver }) Idle)) (record { next = tt; told = tt })
      (either (Intermission place) (is_held_back s s.role) (goes s (Suspend 0)) (goes (record s { role = Receiver }) Idle) (record { next = tt; told = tt }) (record { next = tt; told = tt }))

  suspend_next : (place : ℕ) (y : Level) → FollowsFrom (Suspend place) (suspend_move s place y)
  suspend_next place Dominant = record { next = (refl, ((λ f e. cc e), tt)); told = tt }
  suspend_next place Recessive = either (Suspend place) (ltb place 7) (goes s (Suspend (place + 1))) (goes (record s { role = Receiver }) Idle) (record { next = tt; told = tt }) (record { next = tt; told = tt })

  -- the end of a frame

  enters_next : (p : MacPhase) (who : Role) → FollowsFrom p (enters_intermission s who)
  enters_next p (Sender f) = record { next = tt; told = tt }
  enters_next p Receiver = either p (ltb 0 s.overloads.pending && ltb s.overloads.used 2) (record (overload s) { overloads = record { pending = s.overloads.pending - 1; used = s.overloads.used + 1 } }) (goes s (Intermission 0)) (record { next = tt; told = tt }) (record { next = tt; told = tt })

  crc_delimiter_next : (r : Reading) (y : Level) → FollowsFrom (CrcDelimiter r) (crc_delimiter_move s r y)
  crc_delimiter_next r Recessive = record { next = (refl, ((λ f e. e), tt)); told = tt }
  crc_delimiter_next r Dominant = error_next (CrcDelimiter r) (form_kind s.role)

  ack_slot_next : (who : Role) (r : Reading) (y : Level) → FollowsFrom (AckSlot r) (ack_slot_move s who r y)
  ack_slot_next (Sender g) r Dominant = record { next = (refl, ((λ f e. e), tt)); told = tt }
  ack_slot_next (Sender g) r Recessive = either (AckSlot r) s.passive (errs_by None true s Ack) (errs s Ack) (record { next = flag_next (AckSlot r) s.role waiting x s.role s.passive true; told = tt }) (error_next (AckSlot r) Ack)
  ack_slot_next Receiver r Dominant = either (AckSlot r) r.agrees (record (goes s (AckDelimiter r)) { cause = Some FrameReceived }) (goes s (AckDelimiter r)) (record { next = (refl, ((λ f e. e), tt)); told = tt }) (record { next = (refl, ((λ f e. e), tt)); told = tt })
  ack_slot_next Receiver r Recessive = either (AckSlot r) r.agrees (errs s bit_error) (goes s (AckDelimiter r)) (error_next (AckSlot r) bit_error) (record { next = (refl, ((λ f e. e), tt)); told = tt })

  ack_delimiter_next : (r : Reading) (y : Level) → FollowsFrom (AckDelimiter r) (ack_delimiter_move s r y)
  ack_delimiter_next r Dominant = error_next (AckDelimiter r) (form_kind s.role)
  ack_delimiter_next r Recessive = either (AckDelimiter r) (refuses s.role r) (errs s Crc) (goes s (EndOfFrame r 0)) (error_next (AckDelimiter r) Crc) (record { next = (refl, ((λ f e. e), tt)); told = tt })

  end_of_frame_next : (who : Role) (r : Reading) (place : ℕ) (y : Level) → s.role ≡ who → FollowsFrom (EndOfFrame r place) (end_of_frame_move s who r place y)
  end_of_frame_next (Sender g) r place Dominant is = error_next (EndOfFrame r place) bit_error
  end_of_frame_next (Sender g) r place Recessive is =
      either (EndOfFrame r place) (ltb place 6) (goes s (EndOfFrame r (place + 1))) (record (enters_intermission s s.role) { cause = Some FrameSent; event = Some (Sent g) }) (record { next = (refl, ((λ f e. e), tt)); told = tt })
      (record { next = (enters_next (EndOfFrame r place) s.role).next; told = (refl, is) })
  end_of_frame_next Receiver r place Dominant is = either (EndOfFrame r place) (ltb place 6) (errs s Form) (overload s) (error_next (EndOfFrame r place) Form) (record { next = tt; told = tt })
  end_of_frame_next Receiver r place Recessive is =
      either (EndOfFrame r place) (ltb place 5) (goes s (EndOfFrame r (place + 1))) (cond (ltb place 6) (tells s (EndOfFrame r 6) (Received r.frame)) (enters_intermission s s.role)) (record { next = (refl, ((λ f e. e), tt)); told = tt })
      (either (EndOfFrame r place) (ltb place 6) (tells s (EndOfFrame r 6) (Received r.frame)) (enters_intermission s s.role) (record { next = (refl, ((λ f e. e), tt)); told = (is, (r, (refl, refl))) }) (enters_next (EndOfFrame r place) s.role))

  -- flags

  error_flag_next : (place : ℕ) (y : Level) → FollowsFrom (ErrorFlag place) (error_flag_move s place y)
  error_flag_next place Dominant = either (ErrorFlag place) (ltb place 5) (goes s (ErrorFlag (place + 1))) (goes s (AfterFlag true 0)) (record { next = tt; told = tt }) (record { next = tt; told = tt })
  error_flag_next place Recessive = flag_error_next (ErrorFlag place)

  overload_flag_next : (place : ℕ) (y : Level) → FollowsFrom (OverloadFlag place) (overload_flag_move s place y)
  overload_flag_next place Dominant = either (OverloadFlag place) (ltb place 5) (goes s (OverloadFlag (place + 1))) (goes s (AfterFlag false 0)) (record { next = tt; told = tt }) (record { next = tt; told = tt })
  overload_flag_next place Recessive = flag_error_next (OverloadFlag place)

  passive_flag_next : (last : Level) (run : ℕ) (unacknowledged : Bool) → FollowsFrom (PassiveFlag last run unacknowledged) (passive_flag_move s last run unacknowledged x)
  passive_flag_next last run unacknowledged =
      let longer = run_after last run x in
      let still = unacknowledged && is_recessive x in
      record { next = cond_both (ltb longer 6) (PassiveFlag x longer still) (AfterFlag true 0) (λ q. IsPhaseBehind (PassiveFlag last run unacknowledged) s.role waiting x q s.role) (λ e. tt) (λ e. tt); told = tt }

  after_flag_next : (first : Bool) (dominant : ℕ) (y : Level) → FollowsFrom (AfterFlag first dominant) (after_flag_move s first dominant y)
  after_flag_next first dominant Recessive = record { next = tt; told = tt }
  after_flag_next first dominant Dominant = record { next = tt; told = tt }

  delimiter_next : (place : ℕ) (y : Level) → FollowsFrom (Delimiter place) (delimiter_move s place y)
  delimiter_next place Dominant = either (Delimiter place) (ltb place 7) (errs s Form) (overload s) (error_next (Delimiter place) Form) (record { next = tt; told = tt })
  delimiter_next place Recessive = either (Delimiter place) (ltb place 7) (goes s (Delimiter (place + 1))) (enters_intermission s s.role) (record { next = tt; told = tt }) (enters_next (Delimiter place) s.role)

-- a bit of a frame, at its sender and at a receiver
sent_bit_next : (s : Stance) (waiting : Option Parts) (h : Parts) (front : FrontParts) (sent seen : Level) → s.role ≡ Sender h → sent_level h (length front.unstuffed) ≡ sent → Follows (StuffedPart front) s.role waiting seen (sent_bit_move s h front sent seen).phase (sent_bit_move s h front sent seen).role (sent_bit_move s h front sent seen).event
sent_bit_next s waiting h front Dominant Dominant is at = hears_next s waiting Dominant front (own_seen s waiting Dominant front h is at)
sent_bit_next s waiting h front Recessive Recessive is at = hears_next s waiting Recessive front (own_seen s waiting Recessive front h is at)
sent_bit_next s waiting h front Dominant Recessive is at = error_next s waiting Recessive (StuffedPart front) bit_error
sent_bit_next s waiting h front Recessive Dominant is at = either s waiting Dominant (StuffedPart front) (in_arbitration h front.unstuffed) (record (hears s front Dominant) { role = Receiver; event = Some Lost }) (errs s bit_error) (lost_next s waiting Dominant front) (error_next s waiting Dominant (StuffedPart front) bit_error)

module _ (s : Stance) (waiting : Option Parts) (x : Level) where
  bit_next : (who : Role) (front : FrontParts) → s.role ≡ who → Follows (StuffedPart front) s.role waiting x (bit_move s who front x).phase (bit_move s who front x).role (bit_move s who front x).event
  bit_next Receiver front is = hears_next s waiting x front (λ f e d. cc (sym is ∙ e))
  bit_next (Sender h) front is = sent_bit_next s waiting h front (sent_level h (length front.unstuffed)) x is refl

  stuffed_part_next : (front : FrontParts) → FollowsFrom s waiting x (StuffedPart front) (stuffed_part_move s front x)
  stuffed_part_next front = cond_both (eqb front.run 5) (stuff_bit_move s front x) (bit_move s s.role front x) (FollowsFrom s waiting x (StuffedPart front)) (λ e. stuff_bit_next s waiting x front e) (λ e. bit_next s.role front refl)

  move_follows : (p : MacPhase) → FollowsFrom s waiting x p (move s p waiting x)
  move_follows (Joining row) = joining_next s waiting x row x
  move_follows Idle = idle_next s waiting x waiting x refl
  move_follows (StuffedPart front) = stuffed_part_next front
  move_follows (CrcDelimiter r) = crc_delimiter_next s waiting x r x
  move_follows (AckSlot r) = ack_slot_next s waiting x s.role r x
  move_follows (AckDelimiter r) = ack_delimiter_next s waiting x r x
  move_follows (EndOfFrame r place) = end_of_frame_next s waiting x s.role r place x refl
  move_follows (ErrorFlag place) = error_flag_next s waiting x place x
  move_follows (PassiveFlag last run unacknowledged) = passive_flag_next s waiting x last run unacknowledged
  move_follows (OverloadFlag place) = overload_flag_next s waiting x place x
  move_follows (AfterFlag first dominant) = after_flag_next s waiting x first dominant x
  move_follows (Delimiter place) = delimiter_next s waiting x place x
  move_follows (Intermission place) = intermission_next s waiting x place x
  move_follows (Suspend place) = suspend_next s waiting x place x
  move_follows BusOff = record { next = tt; told = tt }

-- a whole bit time: going off the bus, and off it

abbrev FollowsState : MacPhase → Role → Option Parts → Level → MacState × Option Event → Type 0
FollowsState p role waiting x n = Follows p role waiting x n.0.phase n.0.role n.1

counting_follows : (p : MacPhase) (role : Role) (waiting : Option Parts) (x : Level) (v : MacMove) (c : ConfineParts) (cause : Option Cause) → Follows p role waiting x v.phase v.role v.event → FollowsState p role waiting x (step_counting v c cause)
counting_follows p role waiting x v c None h = record { next = h.next; told = h.told }
counting_follows p role waiting x v c (Some cause) h =
    let new = counted cause c in
    cond_both (is_bus_off new) (record { phase = BusOff; role = Receiver; overloads = v.overloads; counters = new }, Some WentOff) (state_after_move v new, v.event) (FollowsState p role waiting x) (λ e. record { next = tt; told = tt }) (λ e. record { next = h.next; told = h.told })

pub bit_time_follows : (m : MacState) (waiting : Option Parts) (x : Level) → Follows m.phase m.role waiting x (mac_step m waiting x).0.phase (mac_step m waiting x).0.role (mac_step m waiting x).1
unfolding mac_step
bit_time_follows m waiting x =
    let P : MacState × Option Event → Type 0 = FollowsState m.phase m.role waiting x in
    cond_both (is_off_phase m.phase) (off_step m x) (on_step m (move (stance m) m.phase waiting x)) P
    (λ off. cond_both (ends_bus_off x m.counters) (record m { phase = Idle; counters = recovered x m.counters }, Some Recovered) (record m { counters = recovered x m.counters }, None) P (λ e. record { next = tt; told = tt }) (λ e. record { next = off_next m.phase m.phase m.role waiting x m.role off; told = tt }))
    (λ on. let v = move (stance m) m.phase waiting x in counting_follows m.phase m.role waiting x v m.counters v.cause (move_follows (stance m) waiting x m.phase))
