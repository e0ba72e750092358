-- A frame as received on the bus, and its encoding. (Bosch CAN 2.0 part B, sections 3.2.1 and 5)
use Rattle.std.specs.Prelude.{◌≡◌, Bool, true, false, if◌then◌else◌, List, ◌++◌, length}
use Rattle.std.specs.Bool.{beq}
use Rattle.std.specs.Ordering.{on, eq_of_both}
use Rattle.can_frame.specs.declared.level.Level.{Level}
use Rattle.can_frame.specs.declared.level.Level.TheVariants.{Dominant, Recessive}
use Rattle.can_frame.specs.Levels.{is_recessive}
use Rattle.can_frame.specs.Parts.{Parts, IsFrame, same_parts}
use Rattle.can_wire.specs.Stuffing.{Stuffs, stuffed}
use Rattle.can_wire.specs.Crc.{IsCrc, crc_of}
use Rattle.can_wire.specs.Wire.{head_with, tail, IsSpelling}

-- a frame, and the levels that a receiver accepts at either value
pub record HeardParts : Type 0 where
  pub frame : Parts
  pub srr : Level
  pub r1 : Level
  pub r0 : Level
  pub acked : Bool
  pub last : Level

-- the frame is valid; a standard frame has no SRR and no r1, which count as recessive and dominant
pub record IsHeard (h : HeardParts) : Type 0 where
  pub frame : IsFrame h.frame
  pub srr : h.frame.id.extended ≡ false → h.srr ≡ Recessive
  pub r1 : h.frame.id.extended ≡ false → h.r1 ≡ Dominant

-- whether two frames as received agree in all parts
abbrev pub same_heard : HeardParts → HeardParts → Bool
same_heard =
    eq_of_both (on (λ h. h.frame) same_parts)
    (eq_of_both (on (λ h. is_recessive h.srr) beq)
    (eq_of_both (on (λ h. is_recessive h.r1) beq)
    (eq_of_both (on (λ h. is_recessive h.r0) beq)
    (eq_of_both (on (λ h. h.acked) beq)
    (on (λ h. is_recessive h.last) beq)))))

-- the frame as received if every level has the value that it is sent with, and a receiver acknowledges
abbrev pub sent : Parts → HeardParts
sent f = record { frame = f; srr = Recessive; r1 = Dominant; r0 = Dominant; acked = true; last = Recessive }

-- the unstuffed levels from the start of frame to the end of the data, with the SRR and reserved bits as
-- received
unfoldable pub heard_head : HeardParts → List Level
heard_head h = head_with h.srr h.r1 h.r0 h.frame

-- the ACK slot: dominant if a receiver acknowledges
abbrev pub ack_slot : Bool → Level
ack_slot acked = if acked then Dominant else Recessive

-- the levels w encode the frame as received h
pub record Spells (h : HeardParts) (w : List Level) : Type 0 where
  pub heard : IsHeard h
  pub spelling : IsSpelling (heard_head h) (ack_slot h.acked) h.last w

-- the levels that encode h, computed
unfoldable pub spelling : HeardParts → List Level
spelling h = stuffed (heard_head h ++ crc_of (heard_head h)) ++ tail (ack_slot h.acked) h.last

-- s is the complete stuffed part of a frame, with these fifteen bits as its CRC sequence, right or wrong
pub record IsStuffedPart (h : HeardParts) (check s : List Level) : Type 0 where
  pub heard : IsHeard h
  pub fifteen : length check ≡ 15
  pub stuffed : Stuffs (heard_head h ++ check) s

-- a list that encodes a frame as received, except that its CRC sequence may be any fifteen bits
pub record IsShape (w : List Level) : Type 0 where
  pub h : HeardParts
  pub check : List Level
  pub s : List Level
  pub part : IsStuffedPart h check s
  pub whole : w ≡ s ++ tail (ack_slot h.acked) h.last

-- b is a prefix of some list with that shape
abbrev pub BeginsShape : List Level → Type 0
BeginsShape b = (rest : List Level) × IsShape (b ++ rest)

-- b is a prefix of such a list, and none of its prefixes is a complete stuffed part with a wrong CRC
-- sequence
pub record IsSound (b : List Level) : Type 0 where
  pub begins : BeginsShape b
  pub checked : (h : HeardParts) (check s rest : List Level) → IsStuffedPart h check s → s ++ rest ≡ b → IsCrc (heard_head h) check
