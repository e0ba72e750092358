-- Attempts that are hit: which, where in the window of their frames, and what the ports count. These definitions do not depend on what a
-- port does in a bit time. (docs/BUS.md, "A disturbed bus"; numbers in brackets are sections of Bosch CAN 2.0 part B)
use Rattle.std.specs.Prelude.{ℕ, ◌≡◌, ◌+◌, ◌-◌, ◌<◌, ◌≤◌, ◌==◌, nat_lt, Bool, true, false, if◌then◌else◌, List, [], ◌∷◌, length, take, Option, Some, None, slice_get}
use Rattle.can_frame.specs.Parts.{Parts}
use Rattle.can_frame.specs.Arbitration.{arbitration_field}
use Rattle.can_wire.specs.Stuffing.{kept}
use Rattle.can_wire.specs.Wire.{stuffed_part, wire}
use Rattle.can_fault.specs.Counters.{fresh}
use Rattle.can_mac.specs.Frames.{IsActive, slot_place}
use Rattle.can_terms.specs.declared.hit.Hit.{Hit}
use Rattle.can_terms.specs.declared.hit.Hit.TheVariants.{At, In, View}

-- Hits.

-- each hit is an `In`
abbrev pub AreInAttempts : List Hit → Type 0
AreInAttempts hits = (n : ℕ) (hit : Hit) → slice_get hits n ≡ Some hit → (attempt offset : ℕ) × (hit ≡ In attempt offset)

-- the offset at which this attempt is hit, if it is
abbrev pub hit_of : List Hit → ℕ → Option ℕ
hit_of [] number = None
hit_of (At time ∷ hits) number = hit_of hits number
hit_of (In attempt offset ∷ hits) number = if attempt == number then Some offset else hit_of hits number
hit_of (View time node ∷ hits) number = hit_of hits number

-- the second hit is in a later attempt than the first, by at least this many
abbrev pub IsLater : ℕ → Hit → Hit → Type 0
IsLater by (In attempt offset) (In other place) = attempt + by ≤ other
IsLater by a b = ⊥

-- of any two hits, the later one in the list is in a later attempt, by at least this many
abbrev pub AreApart : ℕ → List Hit → Type 0
AreApart by hits = (m n : ℕ) (a b : Hit) → m < n → slice_get hits m ≡ Some a → slice_get hits n ≡ Some b → IsLater by a b

-- The window.

-- the number of levels of the stuffed part before this place, without stuff bits
abbrev pub unstuffed_before : Parts → ℕ → ℕ
unstuffed_before f offset = length (kept (stuffed_part f) 0 (take offset (stuffed_part f)))

-- The place is after start of frame and arbitration field, and at most that of the last but one level of the end of frame. (3.2.1, 5)
pub record IsInWindow (f : Parts) (offset : ℕ) : Type 0 where
  pub behind_field : length (arbitration_field f) < unstuffed_before f offset
  pub before_last : offset + 2 ≤ length (wire f)

-- The tally.

-- the error counters of a port
pub record Tally : Type 0 where
  pub tec : ℕ
  pub rec : ℕ

-- after a reception: REC - 1, not below 0 (8, rule 8)
abbrev pub after_reception : Tally → Tally
after_reception t = record { tec = t.tec; rec = t.rec - 1 }

-- after an error that a receiver detects: REC + 1 (8, rule 1)
abbrev pub after_receiver_error : Tally → Tally
after_receiver_error t = record { tec = t.tec; rec = t.rec + 1 }

-- The counters after an attempt to send f, at the port that holds f (`true`) or another one. If the attempt is not hit, the frame is
-- sent, TEC - 1 (8, rule 7), and received. If it is hit, the transmitter detects an error, TEC + 8 (8, rule 3), and so does each
-- receiver, REC + 1. After the ACK slot a receiver has counted the reception before that. (These are the numbers of an error active port;
-- proofs/AttemptTallies.antt ties them to those of can_fault.)
abbrev pub tallied : Bool → Parts → Option ℕ → Tally → Tally
tallied true f None t = record { tec = t.tec - 1; rec = t.rec }
tallied false f None t = after_reception t
tallied true f (Some offset) t = record { tec = t.tec + 8; rec = t.rec }
tallied false f (Some offset) t = after_receiver_error (if nat_lt (slot_place f) offset then after_reception t else t)

-- the counters of an error active port (8)
abbrev pub IsLow : Tally → Type 0
IsLow t = IsActive (record fresh { tec = t.tec; rec = t.rec })
