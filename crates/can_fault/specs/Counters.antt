-- Fault confinement: the two error counters of a node, what changes them, and the state that follows from them. (Bosch
-- CAN 2.0 part B, section 8)
use Rattle.std.specs.Prelude.{ℕ, ◌≡◌, ◌+◌, ◌-◌, ◌<◌, min, nat_le, Bool, ◌||◌, if◌then◌else◌}
use Rattle.can_frame.specs.IdleRow.{idle_row}
use Rattle.can_fault.specs.declared.cause.Cause.{Cause}
use Rattle.can_fault.specs.declared.cause.Cause.TheVariants.{ReceiverError, ReceiverFlagBit, ReceiverFirstDominant, ReceiverDominantRun, SenderError, SenderFlagBit, SenderDominantRun, PassiveUnacknowledged, FrameSent, FrameReceived}
use Rattle.can_fault.specs.declared.state.State.{State}
use Rattle.can_fault.specs.declared.state.State.TheVariants.{Active, Passive, BusOff}

-- the transmit error counter (TEC); the receive error counter (REC); and while the node is bus off, the number of
-- occurrences of eleven recessive levels, and of recessive levels in a row since the last one
pub record ConfineParts : Type 0 where
  pub tec : ℕ
  pub rec : ℕ
  pub occurrences : ℕ
  pub row : ℕ

-- no error has been counted
abbrev pub fresh : ConfineParts
fresh = record { tec = 0; rec = 0; occurrences = 0; row = 0 }

-- bus off: TEC is at least 256
abbrev pub is_bus_off : ConfineParts → Bool
is_bus_off c = nat_le 256 c.tec

-- a counter is at least 128
abbrev pub is_passive : ConfineParts → Bool
is_passive c = nat_le 128 c.tec || nat_le 128 c.rec

-- the state: bus off if TEC is at least 256; otherwise error passive if a counter is at least 128; otherwise error
-- active
abbrev pub state_of : ConfineParts → State
state_of c = if is_bus_off c then BusOff else if is_passive c then Passive else Active

-- TEC increased by n
abbrev pub sender_raised : ℕ → ConfineParts → ConfineParts
sender_raised n c = record c { tec = c.tec + n }

-- REC increased by n, at most to 255
abbrev pub receiver_raised : ℕ → ConfineParts → ConfineParts
receiver_raised n c = record c { rec = min (c.rec + n) 255 }

-- REC after a successful reception: 127 if it was above 127; otherwise one less, and 0 stays
abbrev pub rec_after_reception : ℕ → ℕ
rec_after_reception rec = if nat_le 128 rec then 127 else rec - 1

-- the counters after a cause
abbrev pub changed : Cause → ConfineParts → ConfineParts
changed ReceiverError c = receiver_raised 1 c
changed ReceiverFlagBit c = receiver_raised 8 c
changed ReceiverFirstDominant c = receiver_raised 8 c
changed ReceiverDominantRun c = receiver_raised 8 c
changed SenderError c = sender_raised 8 c
changed SenderFlagBit c = sender_raised 8 c
changed SenderDominantRun c = sender_raised 8 c
changed PassiveUnacknowledged c = sender_raised 8 c
changed FrameSent c = record c { tec = c.tec - 1 }
changed FrameReceived c = record c { rec = rec_after_reception c.rec }

-- a cause is counted, except while the node is bus off
abbrev pub counted : Cause → ConfineParts → ConfineParts
counted cause c = if is_bus_off c then c else changed cause c

-- what is true of every node: the cause that makes it bus off adds 8 to a TEC of at most 255, and it counts recovery
-- only while it is bus off
pub record IsConfine (c : ConfineParts) : Type 0 where
  pub tec : c.tec < 264
  pub rec : c.rec < 256
  pub occurrences : c.occurrences < 128
  pub row : c.row < idle_row
  pub no_occurrences : c.tec < 256 → c.occurrences ≡ 0
  pub empty_row : c.tec < 256 → c.row ≡ 0
