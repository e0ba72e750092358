-- Hand-computed test vectors: the next values of registers, for controllers and levels. (Bosch CAN 2.0 part B, sections
-- 3.2.3 to 3.2.5 and 8)
use Rattle.std.proofs.Common.{◌≡◌, ℕ, Bool, true, false, cond, eqb, None, refl}
use Rattle.can_frame.specs.declared.level.Level.{Level}
use Rattle.can_frame.specs.declared.level.Level.TheVariants.{Dominant, Recessive}
use Rattle.can_mac.specs.declared.phase.Phase.TheVariants.{Joining, CrcDelimiter, ErrorFlag, Intermission, Suspend}
use Rattle.can_mac.specs.State.{MacState}
use Rattle.can_mac.specs.Machine.{mac_step}
use Rattle.can_mac.proofs.RowWords.{read_001, receiver, sender, with_tec}
use Rattle.can_gates.specs.declared.literal.Literal.{Literal}
use Rattle.can_gates.specs.Circuit.{value}
use Rattle.can_gates_mac.specs.Nibbles.{nibble}
use Rattle.can_gates_mac.specs.Numbers.{Numbers}
use Rattle.can_gates_mac.specs.Stepping.{state_numbers}

-- the numbers after a level that this controller samples while no frame is pending
abbrev behind : MacState → Level → Numbers
behind m x = state_numbers (mac_step m None x).0 (mac_step m None x).1

-- a phase and a place of a receiver or a transmitter, and the event
abbrev row : ℕ → ℕ → Bool → ℕ → Numbers
row phase place sends event = record { phase = phase; place = place; last = false; unacknowledged = false; first = false; sender = sends; pending = 0; used = 0; cause = 0; event = event }

-- suspend transmission is eight levels
suspend_seventh : behind (with_tec 128 (sender (Suspend 6))) Recessive ≡ row 13 7 true 0
unfolding mac_step
suspend_seventh = refl

suspend_eighth : behind (with_tec 128 (sender (Suspend 7))) Recessive ≡ row 0 0 false 0
unfolding mac_step
suspend_eighth = refl

-- intermission is three levels
intermission_second : behind (receiver (Intermission 1)) Recessive ≡ row 12 2 false 0
unfolding mac_step
intermission_second = refl

intermission_third : behind (receiver (Intermission 2)) Recessive ≡ row 0 0 false 0
unfolding mac_step
intermission_third = refl

-- a dominant level there begins a frame, and before it an overload flag
begun_at_the_third : behind (receiver (Intermission 2)) Dominant ≡ row 2 0 false 0
unfolding mac_step
begun_at_the_third = refl

overload_at_the_second : behind (receiver (Intermission 1)) Dominant ≡ row 9 0 false 9
unfolding mac_step
overload_at_the_second = refl

-- the eleventh recessive level of a controller that joins
joined : behind (receiver (Joining 10)) Recessive ≡ row 0 0 false 0
unfolding mac_step
joined = refl

-- a transmitter's bit error in the CRC delimiter: its flag is active at a TEC of 127, passive at 128, and at 248 it
-- becomes bus-off
active_at_127 : behind (with_tec 127 (sender (CrcDelimiter read_001))) Dominant ≡ row 7 0 true 4
unfolding mac_step
active_at_127 = refl

passive_at_128 : behind (with_tec 128 (sender (CrcDelimiter read_001))) Dominant ≡ record (row 8 0 true 4) { last = true }
unfolding mac_step
passive_at_128 = refl

off_at_256 : behind (with_tec 248 (sender (CrcDelimiter read_001))) Dominant ≡ row 14 0 false 10
unfolding mac_step
off_at_256 = refl

-- a receiver's error there is one of form
form_at_a_receiver : behind (receiver (CrcDelimiter read_001)) Dominant ≡ row 7 0 false 7
unfolding mac_step
form_at_a_receiver = refl

-- the sixth level of an active flag
flag_ended : behind (receiver (ErrorFlag 5)) Dominant ≡ record (row 10 0 false 0) { first = true }
unfolding mac_step
flag_ended = refl

-- a nibble of the signals 1 to 4, of which the first, the third and the fourth are true, is thirteen

abbrev signal : ℕ → Literal
signal s = record { signal = s; negated = false }

abbrev all_but_2 : ℕ → Bool
all_but_2 s = cond (eqb s 0) false (cond (eqb s 2) false true)

thirteen : nibble all_but_2 (record { ones = signal 1; twos = signal 2; fours = signal 3; eights = signal 4 }) ≡ 13
unfolding nibble value
thirteen = refl
