-- The effect of a move on a controller that waits until the bus is at rest: an error or an overload flag begins the wait, and no move has
-- an event of a frame before ten recessive levels in a row.
use Rattle.std.proofs.Common.{◌≡◌, ℕ, ◌+◌, Bool, true, false, ◌&&◌, Option, Some, None, List, length, refl, cond}
use Rattle.std.specs.Prelude.{nat_lt, ◌==◌}
use Rattle.can_frame.specs.declared.level.Level.{Level}
use Rattle.can_frame.specs.declared.level.Level.TheVariants.{Dominant, Recessive}
use Rattle.can_frame.specs.Levels.{same}
use Rattle.can_frame.specs.Parts.{Parts}
use Rattle.can_code.specs.Sending.{sent_level}
use Rattle.can_code.specs.Front.{FrontParts}
use Rattle.can_fault.specs.declared.cause.Cause.{Cause}
use Rattle.can_fault.specs.Counters.{ConfineParts, is_bus_off}
use Rattle.can_terms.specs.declared.event.ErrorKind.{ErrorKind}
use Rattle.can_mac.specs.declared.phase.Role.{Role}
use Rattle.can_mac.specs.declared.phase.Role.TheVariants.{Receiver, Sender}
use Rattle.can_mac.specs.declared.phase.Reading.{Reading}
use Rattle.can_mac.specs.declared.phase.Phase.TheVariants.{Joining, Idle, StuffedPart, CrcDelimiter, AckSlot, AckDelimiter, EndOfFrame, ErrorFlag, PassiveFlag, OverloadFlag, AfterFlag, Delimiter, Intermission, Suspend, BusOff}
use Rattle.can_mac.specs.declared.moves.Stance.{Stance}
use Rattle.can_mac.specs.State.{MacPhase}
use Rattle.can_mac.specs.Moves.{MacMove, flag, errs_by, in_arbitration, is_uncounted, stuff_bit_move, sent_bit_move, bit_move, refuses, enters_intermission, ack_slot_move, end_of_frame_move, move, is_held_back}
use Rattle.can_node.specs.Listening.{is_upset}
use Rattle.can_node.proofs.Rests.{EndsInRest}

-- what holds off the bus before a rest was seen: no occurrence, and a row of recessive levels
pub record WaitsOff (c : ConfineParts) (levels : List Level) : Type 0 where
  pub off : is_bus_off c ≡ true
  pub none : c.occurrences ≡ 0
  pub ends : EndsInRest c.row levels

-- where a controller may be before the bus was at rest, and what it has sampled there
abbrev pub WaitsAt : MacPhase → ConfineParts → List Level → Type 0
WaitsAt (Joining row) c levels = ⊥
WaitsAt Idle c levels = ⊥
WaitsAt (StuffedPart front) c levels = ⊥
WaitsAt (CrcDelimiter r) c levels = ⊥
WaitsAt (AckSlot r) c levels = ⊥
WaitsAt (AckDelimiter r) c levels = ⊥
WaitsAt (EndOfFrame r place) c levels = ⊥
WaitsAt (ErrorFlag place) c levels = Unit {0}
WaitsAt (PassiveFlag last run unacknowledged) c levels = Unit {0}
WaitsAt (OverloadFlag place) c levels = Unit {0}
WaitsAt (AfterFlag first dominant) c levels = Unit {0}
WaitsAt (Delimiter place) c levels = EndsInRest place levels
WaitsAt (Intermission place) c levels = EndsInRest (8 + place) levels
WaitsAt (Suspend place) c levels = ⊥
WaitsAt BusOff c levels = WaitsOff c levels

-- a move that begins the wait if its event is an error, an overload flag or bus off
pub record BeginsWait (v : MacMove) : Type 0 where
  pub begins : is_upset v.event ≡ true → (c : ConfineParts) (levels : List Level) → WaitsAt v.phase c levels

-- a move whose event is none of these
calm : {v : MacMove} → is_upset v.event ≡ false → BeginsWait v
calm h = record { begins = λ e. cc }

-- either of two moves
either : {v w : MacMove} (b : Bool) → BeginsWait v → BeginsWait w → BeginsWait (cond b v w)
either true p q = p
either false p q = q

-- an error flag, active or passive
pub flag-waits : (passive un : Bool) (c : ConfineParts) (levels : List Level) → WaitsAt (flag passive un) c levels
flag-waits true un c levels = tt
flag-waits false un c levels = tt

-- an error
error : (cause : Option Cause) (un : Bool) (s : Stance) (kind : ErrorKind) → BeginsWait (errs_by cause un s kind)
error cause un s kind = record { begins = λ e c levels. flag-waits s.passive un c levels }

-- an overload frame of the controller's own, at the start of intermission
enters : (s : Stance) (role : Role) → BeginsWait (enters_intermission s role)
enters s (Sender f) = calm refl
enters s Receiver = either (nat_lt 0 s.overloads.pending && nat_lt s.overloads.used 2) (record { begins = λ e c levels. tt }) (calm refl)

-- a stuff place
begins-stuff_bit : (s : Stance) (front : FrontParts) (x : Level) → BeginsWait (stuff_bit_move s front x)
begins-stuff_bit s front x = either (same x front.last) (either (is_uncounted s.role front.unstuffed x) (error _ _ _ _) (error _ _ _ _)) (calm refl)

-- another place of the stuffed part, to a transmitter
begins-sent_bit : (s : Stance) (f : Parts) (front : FrontParts) (driven x : Level) → BeginsWait (sent_bit_move s f front driven x)
begins-sent_bit s f front Dominant Dominant = calm refl
begins-sent_bit s f front Recessive Recessive = calm refl
begins-sent_bit s f front Dominant Recessive = error _ _ _ _
begins-sent_bit s f front Recessive Dominant = either (in_arbitration f front.unstuffed) (calm refl) (error _ _ _ _)

-- and to any controller
begins-bit : (s : Stance) (role : Role) (front : FrontParts) (x : Level) → BeginsWait (bit_move s role front x)
begins-bit s Receiver front x = calm refl
begins-bit s (Sender f) front x = begins-sent_bit s f front (sent_level f (length front.unstuffed)) x

-- the ACK slot
begins-ack_slot : (s : Stance) (role : Role) (r : Reading) (x : Level) → BeginsWait (ack_slot_move s role r x)
begins-ack_slot s (Sender f) r Dominant = calm refl
begins-ack_slot s (Sender f) r Recessive = either s.passive (error _ _ _ _) (error _ _ _ _)
begins-ack_slot s Receiver r Dominant = either r.agrees (calm refl) (calm refl)
begins-ack_slot s Receiver r Recessive = either r.agrees (error _ _ _ _) (calm refl)

-- the end of frame
begins-end : (s : Stance) (role : Role) (r : Reading) (place : ℕ) (x : Level) → BeginsWait (end_of_frame_move s role r place x)
begins-end s (Sender f) r place Dominant = error _ _ _ _
begins-end s (Sender f) r place Recessive = either (nat_lt place 6) (calm refl) (calm refl)
begins-end s Receiver r place Dominant = either (nat_lt place 6) (error _ _ _ _) (record { begins = λ e c levels. tt })
begins-end s Receiver r place Recessive = either (nat_lt place 5) (calm refl) (either (nat_lt place 6) (calm refl) (enters s s.role))

-- any phase: each error, and each overload, begins the wait
pub move-begins : (s : Stance) (phase : MacPhase) (waiting : Option Parts) (x : Level) → BeginsWait (move s phase waiting x)
move-begins s (Joining row) waiting Dominant = calm refl
move-begins s (Joining row) waiting Recessive = either (nat_lt row 10) (calm refl) (calm refl)
move-begins s Idle None Dominant = calm refl
move-begins s Idle None Recessive = calm refl
move-begins s Idle (Some f) Dominant = calm refl
move-begins s Idle (Some f) Recessive = error _ _ (record s { role = Sender f }) _
move-begins s (StuffedPart front) waiting x = either (front.run == 5) (begins-stuff_bit s front x) (begins-bit s s.role front x)
move-begins s (CrcDelimiter r) waiting Dominant = error _ _ _ _
move-begins s (CrcDelimiter r) waiting Recessive = calm refl
move-begins s (AckSlot r) waiting x = begins-ack_slot s s.role r x
move-begins s (AckDelimiter r) waiting Dominant = error _ _ _ _
move-begins s (AckDelimiter r) waiting Recessive = either (refuses s.role r) (error _ _ _ _) (calm refl)
move-begins s (EndOfFrame r place) waiting x = begins-end s s.role r place x
move-begins s (ErrorFlag place) waiting Dominant = either (nat_lt place 5) (calm refl) (calm refl)
move-begins s (ErrorFlag place) waiting Recessive = error _ _ _ _
move-begins s (PassiveFlag last run unacknowledged) waiting x = calm refl
move-begins s (OverloadFlag place) waiting Dominant = either (nat_lt place 5) (calm refl) (calm refl)
move-begins s (OverloadFlag place) waiting Recessive = error _ _ _ _
move-begins s (AfterFlag first dominant) waiting Dominant = calm refl
move-begins s (AfterFlag first dominant) waiting Recessive = calm refl
move-begins s (Delimiter place) waiting Dominant = either (nat_lt place 7) (error _ _ _ _) (record { begins = λ e c levels. tt })
move-begins s (Delimiter place) waiting Recessive = either (nat_lt place 7) (calm refl) (enters s s.role)
move-begins s (Intermission place) waiting Dominant = either (nat_lt place 2) (record { begins = λ e c levels. tt }) (calm refl)
move-begins s (Intermission place) waiting Recessive = either (nat_lt place 2) (calm refl) (either (is_held_back s s.role) (calm refl) (calm refl))
move-begins s (Suspend place) waiting Dominant = calm refl
move-begins s (Suspend place) waiting Recessive = either (nat_lt place 7) (calm refl) (calm refl)
move-begins s BusOff waiting x = calm refl
