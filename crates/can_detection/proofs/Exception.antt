-- An acknowledged frame that is read as a longer one, without a fault, if one level is inverted.
use Rattle.std.proofs.Common.{◌≡◌, ℕ, zero, suc, ◌<◌, true, false, List, [], ◌∷◌, ◌++◌, refl, sym, subst, arith}
use Rattle.std.specs.Prelude.{slice_index}
use Rattle.can_frame.specs.declared.level.Level.{Level}
use Rattle.can_frame.specs.declared.level.Level.TheVariants.{Recessive}
use Rattle.can_frame.specs.Levels.{bits_of}
use Rattle.can_frame.specs.Arbitration.{arbitration_field}
use Rattle.can_frame.specs.Parts.{IsFrame}
use Rattle.can_wire.specs.Crc.{crc_of}
use Rattle.can_wire.specs.Stuffing.{stuffed}
use Rattle.can_wire.specs.Wire.{head, unstuffed, stuffed_part, wire, driven}
use Rattle.can_wire.specs.Heard.{HeardParts, Spells, sent}
use Rattle.can_wire.proofs.LayoutHead.{IsHeard-sent}
use Rattle.can_wire.proofs.SpellingLemmas.{Spells-spelling, spelling-sent, spelling-unacknowledged}
use Rattle.can_detection.specs.WrongBit.{inverted_at, crc_delimiter}
use Rattle.can_detection.proofs.Rows.{data_frame, sent_065, read_065, row_065}

-- frames with one byte of data
one_byte : (byte : ℕ) → byte < 256 → IsFrame (data_frame 0x065 1 (byte ∷ []))
one_byte byte small = record { id = omega arith; dlc = omega arith; count = refl; small = by_place }
  where
    by_place : (k : ℕ) → slice_index (byte ∷ []) k < 256
    by_place zero = small
    by_place (suc k) = omega arith

unacknowledged : HeardParts
unacknowledged = record (sent read_065) { acked = false }

delimiter_065 : crc_delimiter (wire sent_065) ≡ 44
unfolding stuffed_part unstuffed stuffed crc_of head arbitration_field bits_of
delimiter_065 = refl

sent_spelled : Spells (sent sent_065) (wire sent_065)
sent_spelled = subst (Spells (sent sent_065)) (spelling-sent sent_065) (Spells-spelling (sent sent_065) (IsHeard-sent sent_065 (one_byte 0xb6 (omega arith))))

read_spelled : Spells unacknowledged (driven read_065)
unfolding unacknowledged
read_spelled =
    let is = IsHeard-sent read_065 (one_byte 0xfd (omega arith)) in
    subst (Spells unacknowledged) (spelling-unacknowledged read_065) (Spells-spelling unacknowledged (record { frame = is.frame; srr = is.srr; r1 = is.r1 }))

pub read_longer : (h : HeardParts) × (g : HeardParts) × (w : List Level) × (p : ℕ) × (rest : List Level) × Spells h w × (h.acked ≡ true) × (0 < p) × (p < crc_delimiter w) × Spells g (inverted_at p w ++ rest)
read_longer = (
  sent sent_065,
  unacknowledged,
  wire sent_065,
  22,
  Recessive ∷ Recessive ∷ [],
  sent_spelled,
  refl,
  omega arith,
  omega (arith, delimiter_065),
  subst (Spells unacknowledged) (sym row_065) read_spelled,
)
