-- Frames, and frames as received, as plain fields for C: always eight data bytes, of which a frame has the first ones;
-- flags and levels as 0 and 1. (Bosch CAN 2.0 part B, section 3.2.1)
use Rattle.std.specs.Prelude.{◌-◌, ◌==◌, nat_lt, if◌then◌else◌, Option, Some, None, ◌++◌, length, take, replicate}
use Rattle.can_frame.specs.Ident.{Ident, ident_count}
use Rattle.can_frame.specs.Parts.{Parts, byte_count}
use Rattle.can_wire.specs.Heard.{HeardParts}
use Rattle.can_c.specs.declared.plain.PlainFrame.{PlainFrame}
use Rattle.can_c.specs.declared.plain.PlainHeard.{PlainHeard}
use Rattle.can_c.specs.declared.status.Status.{Status}
use Rattle.can_c.specs.declared.status.Status.TheVariants.{BadFlag, BadIdentifier, BadDlc}
use Rattle.std.specs.Int.{from_bool}
use Rattle.can_frame.specs.Levels.{level_code}

-- why plain fields are no frame, the first reason that applies: a flag is neither 0 nor 1; the identifier is out of the
-- range of its kind; the data length code is above 15
abbrev pub refusal : PlainFrame → Option Status
refusal f =
    if nat_lt 1 f.extended then Some BadFlag
    else if nat_lt 1 f.remote then Some BadFlag
    else if nat_lt f.identifier (ident_count (f.extended == 1)) then (if nat_lt 15 f.dlc then Some BadDlc else None)
    else Some BadIdentifier

-- the identifier of plain fields
abbrev pub ident_of_plain : PlainFrame → Ident
ident_of_plain f = record { raw = f.identifier; extended = f.extended == 1 }

-- the frame of plain fields
abbrev pub frame_of_plain : PlainFrame → Parts
frame_of_plain f =
    record { id = ident_of_plain f; remote = f.remote == 1; dlc = f.dlc; bytes = take (byte_count (f.remote == 1) f.dlc) f.bytes }

-- the plain fields of a frame: data bytes that it does not have are 0
abbrev pub plain_frame : Parts → PlainFrame
plain_frame f = record {
  identifier = f.id.raw;
  extended = from_bool f.id.extended;
  remote = from_bool f.remote;
  dlc = f.dlc;
  bytes = f.bytes ++ replicate (8 - length f.bytes) 0;
}

-- the plain fields of a frame as received
abbrev pub plain_heard : HeardParts → PlainHeard
plain_heard h = record {
  frame = plain_frame h.frame;
  acknowledged = from_bool h.acked;
  srr = level_code h.srr;
  r1 = level_code h.r1;
  r0 = level_code h.r0;
  last = level_code h.last;
}
