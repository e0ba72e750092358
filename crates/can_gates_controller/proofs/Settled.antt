-- What the phase leaves open of role, marks and own overload frames: each bit time preserves it.
use Rattle.std.proofs.Common.{◌≡◌, ℕ, ◌+◌, ◌-◌, Bool, true, false, cond, length, Option, Some, None, refl, ap, arith}
use Rattle.std.specs.Prelude.{◌&&◌}
use Rattle.std.proofs.Math.Dec.{eqb, ltb}
use Rattle.std.proofs.lemmas.Bool.{cond_both}
use Rattle.can_frame.specs.declared.level.Level.{Level}
use Rattle.can_frame.specs.declared.level.Level.TheVariants.{Dominant, Recessive}
use Rattle.can_frame.specs.Levels.{same, is_recessive}
use Rattle.can_frame.specs.Parts.{Parts}
use Rattle.can_wire.specs.Stuffing.{run_after}
use Rattle.can_code.specs.Front.{FrontParts, heard_level}
use Rattle.can_code.specs.Sending.{sent_level}
use Rattle.can_fault.specs.declared.cause.Cause.{Cause}
use Rattle.can_fault.specs.declared.cause.Cause.TheVariants.{FrameSent, FrameReceived}
use Rattle.can_fault.specs.Counters.{ConfineParts, counted, is_bus_off}
use Rattle.can_fault.specs.Recovery.{ends_bus_off, recovered}
use Rattle.can_terms.specs.declared.event.Event.{Event}
use Rattle.can_terms.specs.declared.event.Event.TheVariants.{Sent, Received, Lost, WentOff, Recovered}
use Rattle.can_terms.specs.declared.event.ErrorKind.TheVariants.{Bit as bit_error, Crc, Form, Stuff, Ack}
use Rattle.can_mac.specs.declared.moves.Stance.{Stance}
use Rattle.can_mac.specs.declared.phase.Reading.{Reading}
use Rattle.can_mac.specs.declared.phase.Role.{Role}
use Rattle.can_mac.specs.declared.phase.Role.TheVariants.{Receiver, Sender}
use Rattle.can_mac.specs.declared.phase.Phase.TheVariants.{Joining, Idle, StuffedPart, CrcDelimiter, AckSlot, AckDelimiter, EndOfFrame, ErrorFlag, PassiveFlag, OverloadFlag, AfterFlag, Delimiter, Intermission, Suspend, BusOff}
use Rattle.can_mac.specs.State.{MacPhase, MacState, is_off_phase, is_sender}
use Rattle.can_mac.specs.Moves.{MacMove, goes, tells, overload, begins_frame, flag, errs_by, errs, joining_move, idle_move, reading_of, ends_part, part_phase, hears, in_arbitration, is_uncounted, stuff_error_move, stuff_bit_move, sent_bit_move, bit_move, stuffed_part_move, crc_delimiter_move, ack_slot_move, refuses, ack_delimiter_move, enters_intermission, end_of_frame_move, error_flag_move, overload_flag_move, passive_flag_move, after_flag_move, delimiter_move, is_held_back, next_role, intermission_move, suspend_move, move}
use Rattle.can_mac.specs.Machine.{stance, state_after_move, step_counting, on_step, off_step, mac_step}
use Rattle.can_gates_controller.specs.Whole.{IsSettled}

flag_settled : (passive unacknowledged : Bool) (role : Role) (used : ℕ) → (unacknowledged ≡ true → is_sender role ≡ true) → IsSettled (flag passive unacknowledged) role used
flag_settled true unacknowledged role used h = (h, λ e. refl)
flag_settled false unacknowledged role used h = tt

part_settled : (front : FrontParts) (role : Role) (used : ℕ) → used ≡ 0 → IsSettled (part_phase front) role used
part_settled front role used h = cond_both (ends_part front) (CrcDelimiter (reading_of front.unstuffed)) (StuffedPart front) (λ q. IsSettled q role used) (λ e. h) (λ e. h)

-- the role of a controller that suspends transmission
held_back_sends : (s : Stance) (role : Role) → is_held_back s role ≡ true → is_sender role ≡ true
held_back_sends s Receiver e = cc e
held_back_sends s (Sender f) e = refl

-- a run has a level
longer_some : (last : Level) (run : ℕ) (x : Level) → run_after last run x ≡ 0 → x ≡ Recessive
longer_some last run x = cond_both (same x last) (run + 1) 1 (λ k. k ≡ 0 → x ≡ Recessive) (λ e n. absurd (omega (arith, n))) (λ e n. absurd (omega (arith, n)))

still_waits : (a b s : Bool) → (a ≡ true → s ≡ true) → (a && b) ≡ true → s ≡ true
still_waits true b s h e = h refl
still_waits false b s h e = cc e

module _ (s : Stance) where
  abbrev Settles : MacMove → Type 0
  Settles v = IsSettled v.phase v.role v.overloads.used

  -- no own overload frame counts in this frame
  abbrev IsUnused : Type 0
  IsUnused = s.overloads.used ≡ 0

  -- in both cases of a test
  either : (b : Bool) (v w : MacMove) → Settles v → Settles w → Settles (cond b v w)
  either b v w first other = cond_both b v w Settles (λ e. first) (λ e. other)

  erring : IsSettled (flag s.passive false) s.role s.overloads.used
  erring = flag_settled s.passive false s.role s.overloads.used (λ e. cc e)

  joining_settled : (row : ℕ) (x : Level) → s.role ≡ Receiver → Settles (joining_move s row x)
  joining_settled row Dominant h = h
  joining_settled row Recessive h = either (ltb row 10) (goes s (Joining (row + 1))) (goes s Idle) h h

  idle_settled : (waiting : Option Parts) (x : Level) → s.role ≡ Receiver → Settles (idle_move s waiting x)
  idle_settled None Dominant h = refl
  idle_settled None Recessive h = h
  idle_settled (Some f) Dominant h = refl
  idle_settled (Some f) Recessive h = flag_settled s.passive false (Sender f) s.overloads.used (λ e. cc e)

  hears_settled : (front : FrontParts) (role : Role) (x : Level) → IsUnused → IsSettled (part_phase (heard_level front x)) role s.overloads.used
  hears_settled front role x h = part_settled (heard_level front x) role s.overloads.used h

  stuff_bit_settled : (front : FrontParts) (x : Level) → IsUnused → Settles (stuff_bit_move s front x)
  stuff_bit_settled front x h = either (same x front.last) (stuff_error_move s front x) (hears s front x) (either (is_uncounted s.role front.unstuffed x) (errs_by None false s Stuff) (errs s Stuff) erring erring) (hears_settled front s.role x h)

  sent_bit_settled : (f : Parts) (front : FrontParts) (sent seen : Level) → IsUnused → Settles (sent_bit_move s f front sent seen)
  sent_bit_settled f front Dominant Dominant h = hears_settled front s.role Dominant h
  sent_bit_settled f front Recessive Recessive h = hears_settled front s.role Recessive h
  sent_bit_settled f front Dominant Recessive h = erring
  sent_bit_settled f front Recessive Dominant h = either (in_arbitration f front.unstuffed) (record (hears s front Dominant) { role = Receiver; event = Some Lost }) (errs s bit_error) (hears_settled front Receiver Dominant h) erring

  bit_settled : (who : Role) (front : FrontParts) (x : Level) → IsUnused → Settles (bit_move s who front x)
  bit_settled Receiver front x h = hears_settled front s.role x h
  bit_settled (Sender f) front x h = sent_bit_settled f front (sent_level f (length front.unstuffed)) x h

  stuffed_part_settled : (front : FrontParts) (x : Level) → IsUnused → Settles (stuffed_part_move s front x)
  stuffed_part_settled front x h = either (eqb front.run 5) (stuff_bit_move s front x) (bit_move s s.role front x) (stuff_bit_settled front x h) (bit_settled s.role front x h)

  crc_delimiter_settled : (r : Reading) (x : Level) → IsUnused → Settles (crc_delimiter_move s r x)
  crc_delimiter_settled r Recessive h = h
  crc_delimiter_settled r Dominant h = erring

  ack_slot_settled : (who : Role) (r : Reading) (x : Level) → s.role ≡ who → IsUnused → Settles (ack_slot_move s who r x)
  ack_slot_settled (Sender f) r Dominant is h = h
  ack_slot_settled (Sender f) r Recessive is h = either s.passive (errs_by None true s Ack) (errs s Ack) (flag_settled s.passive true s.role s.overloads.used (λ e. ap is_sender is)) erring
  ack_slot_settled Receiver r Dominant is h = either r.agrees (record (goes s (AckDelimiter r)) { cause = Some FrameReceived }) (goes s (AckDelimiter r)) h h
  ack_slot_settled Receiver r Recessive is h = either r.agrees (errs s bit_error) (goes s (AckDelimiter r)) erring h

  ack_delimiter_settled : (r : Reading) (x : Level) → IsUnused → Settles (ack_delimiter_move s r x)
  ack_delimiter_settled r Dominant h = erring
  ack_delimiter_settled r Recessive h = either (refuses s.role r) (errs s Crc) (goes s (EndOfFrame r 0)) erring h

  enters_settled : (who : Role) → Settles (enters_intermission s who)
  enters_settled (Sender f) = tt
  enters_settled Receiver = either (ltb 0 s.overloads.pending && ltb s.overloads.used 2) (record (overload s) { overloads = record { pending = s.overloads.pending - 1; used = s.overloads.used + 1 } }) (goes s (Intermission 0)) tt tt

  end_of_frame_settled : (who : Role) (r : Reading) (place : ℕ) (x : Level) → IsUnused → Settles (end_of_frame_move s who r place x)
  end_of_frame_settled (Sender f) r place Dominant h = erring
  end_of_frame_settled (Sender f) r place Recessive h = either (ltb place 6) (goes s (EndOfFrame r (place + 1))) (record (enters_intermission s s.role) { cause = Some FrameSent; event = Some (Sent f) }) h (enters_settled s.role)
  end_of_frame_settled Receiver r place Dominant h = either (ltb place 6) (errs s Form) (overload s) erring tt
  end_of_frame_settled Receiver r place Recessive h =
      either (ltb place 5) (goes s (EndOfFrame r (place + 1))) (cond (ltb place 6) (tells s (EndOfFrame r 6) (Received r.frame)) (enters_intermission s s.role)) h
      (either (ltb place 6) (tells s (EndOfFrame r 6) (Received r.frame)) (enters_intermission s s.role) h (enters_settled s.role))

  error_flag_settled : (place : ℕ) (x : Level) → Settles (error_flag_move s place x)
  error_flag_settled place Dominant = either (ltb place 5) (goes s (ErrorFlag (place + 1))) (goes s (AfterFlag true 0)) tt (λ e. refl)
  error_flag_settled place Recessive = erring

  overload_flag_settled : (place : ℕ) (x : Level) → Settles (overload_flag_move s place x)
  overload_flag_settled place Dominant = either (ltb place 5) (goes s (OverloadFlag (place + 1))) (goes s (AfterFlag false 0)) tt (λ e. refl)
  overload_flag_settled place Recessive = erring

  passive_flag_settled : (last : Level) (run : ℕ) (unacknowledged : Bool) (x : Level) → (unacknowledged ≡ true → is_sender s.role ≡ true) → Settles (passive_flag_move s last run unacknowledged x)
  passive_flag_settled last run unacknowledged x h =
      let longer = run_after last run x in
      cond_both (ltb longer 6) (PassiveFlag x longer (unacknowledged && is_recessive x)) (AfterFlag true 0) (λ q. IsSettled q s.role s.overloads.used) (λ e. (still_waits unacknowledged (is_recessive x) (is_sender s.role) h, longer_some last run x)) (λ e. λ f. refl)

  after_flag_settled : (first : Bool) (dominant : ℕ) (x : Level) → Settles (after_flag_move s first dominant x)
  after_flag_settled first dominant Recessive = tt
  after_flag_settled first dominant Dominant = λ e. cc e

  delimiter_settled : (place : ℕ) (x : Level) → Settles (delimiter_move s place x)
  delimiter_settled place Dominant = either (ltb place 7) (errs s Form) (overload s) erring tt
  delimiter_settled place Recessive = either (ltb place 7) (goes s (Delimiter (place + 1))) (enters_intermission s s.role) tt (enters_settled s.role)

  intermission_settled : (place : ℕ) (waiting : Option Parts) (x : Level) → Settles (intermission_move s place waiting x)
  intermission_settled place waiting Dominant = either (ltb place 2) (overload s) (begins_frame s (next_role (is_held_back s s.role) waiting)) tt refl
  intermission_settled place waiting Recessive =
      either (ltb place 2) (goes s (Intermission (place + 1))) (cond (is_held_back s s.role) (goes s (Suspend 0)) (goes (record s { role = Receiver }) Idle)) tt
      (cond_both (is_held_back s s.role) (goes s (Suspend 0)) (goes (record s { role = Receiver }) Idle) Settles (held_back_sends s s.role) (λ e. refl))

  suspend_settled : (place : ℕ) (x : Level) → is_sender s.role ≡ true → Settles (suspend_move s place x)
  suspend_settled place Dominant h = refl
  suspend_settled place Recessive h = either (ltb place 7) (goes s (Suspend (place + 1))) (goes (record s { role = Receiver }) Idle) h refl

  move_settled : (p : MacPhase) (waiting : Option Parts) (x : Level) → IsSettled p s.role s.overloads.used → Settles (move s p waiting x)
  move_settled (Joining row) waiting x h = joining_settled row x h
  move_settled Idle waiting x h = idle_settled waiting x h
  move_settled (StuffedPart front) waiting x h = stuffed_part_settled front x h
  move_settled (CrcDelimiter r) waiting x h = crc_delimiter_settled r x h
  move_settled (AckSlot r) waiting x h = ack_slot_settled s.role r x refl h
  move_settled (AckDelimiter r) waiting x h = ack_delimiter_settled r x h
  move_settled (EndOfFrame r place) waiting x h = end_of_frame_settled s.role r place x h
  move_settled (ErrorFlag place) waiting x h = error_flag_settled place x
  move_settled (PassiveFlag last run unacknowledged) waiting x h = passive_flag_settled last run unacknowledged x h.0
  move_settled (OverloadFlag place) waiting x h = overload_flag_settled place x
  move_settled (AfterFlag first dominant) waiting x h = after_flag_settled first dominant x
  move_settled (Delimiter place) waiting x h = delimiter_settled place x
  move_settled (Intermission place) waiting x h = intermission_settled place waiting x
  move_settled (Suspend place) waiting x h = suspend_settled place x h
  move_settled BusOff waiting x h = h

-- a whole bit time: going off the bus, and off it

abbrev SettledState : MacState × Option Event → Type 0
SettledState n = IsSettled n.0.phase n.0.role n.0.overloads.used

counting_settled : (v : MacMove) (c : ConfineParts) (cause : Option Cause) → IsSettled v.phase v.role v.overloads.used → SettledState (step_counting v c cause)
counting_settled v c None h = h
counting_settled v c (Some cause) h =
    let new = counted cause c in
    cond_both (is_bus_off new) (record { phase = BusOff; role = Receiver; overloads = v.overloads; counters = new }, Some WentOff) (state_after_move v new, v.event) SettledState (λ e. refl) (λ e. h)

off_receives : (p : MacPhase) (role : Role) (used : ℕ) → is_off_phase p ≡ true → IsSettled p role used → role ≡ Receiver
off_receives BusOff role used e h = h
off_receives p role used e h = cc

pub step_settled : (m : MacState) (waiting : Option Parts) (x : Level) → IsSettled m.phase m.role m.overloads.used → IsSettled (mac_step m waiting x).0.phase (mac_step m waiting x).0.role (mac_step m waiting x).0.overloads.used
unfolding mac_step
step_settled m waiting x h =
    cond_both (is_off_phase m.phase) (off_step m x) (on_step m (move (stance m) m.phase waiting x)) SettledState
    (λ off. cond_both (ends_bus_off x m.counters) (record m { phase = Idle; counters = recovered x m.counters }, Some Recovered) (record m { counters = recovered x m.counters }, None) SettledState (λ e. off_receives m.phase m.role m.overloads.used off h) (λ e. h))
    (λ on. let v = move (stance m) m.phase waiting x in counting_settled v m.counters v.cause (move_settled (stance m) m.phase waiting x h))
