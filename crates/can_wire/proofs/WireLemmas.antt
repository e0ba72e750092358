-- A list of levels has one spelling, and that of a frame is as long as its parts allow.
use Rattle.std.proofs.Common.{◌≡◌, ℕ, ◌+◌, ◌*◌, ◌≤◌, Bool, true, false, List, ◌++◌, length, refl, ◌∙◌, ap, arith, length-append, cond}
use Rattle.can_frame.specs.declared.level.Level.{Level}
use Rattle.can_frame.specs.declared.level.Level.TheVariants.{Dominant, Recessive}
use Rattle.can_frame.specs.Parts.{Parts, IsFrame}
use Rattle.can_wire.specs.Crc.{crc_of}
use Rattle.can_wire.specs.Stuffing.{stuffed}
use Rattle.can_wire.specs.Wire.{head, tail, IsSpelling, unstuffed, stuffed_part, wire, driven}
use Rattle.can_wire.specs.Heard.{sent}
use Rattle.can_wire.proofs.DivisionLemmas.{length-crc_of, IsCrc-crc_of, IsCrc-only}
use Rattle.can_wire.proofs.StuffingLemmas.{length-stuffed, Stuffs-stuffed, stuffed-only}
use Rattle.can_wire.proofs.LayoutHead.{heard_head-sent, length-heard_head-le}

-- u with its CRC sequence, stuffed
abbrev pub stuffed_with_check : List Level → List Level
stuffed_with_check u = stuffed (u ++ crc_of u)

-- the spelling of u with this tail
abbrev pub spelling_of : List Level → Level → Level → List Level
spelling_of u ack last = stuffed_with_check u ++ tail ack last

-- it spells
pub IsSpelling-spelling_of : (u : List Level) (ack last : Level) → IsSpelling u ack last (spelling_of u ack last)
IsSpelling-spelling_of u ack last = record {
  check = crc_of u;
  is_check = IsCrc-crc_of u;
  stuffed = stuffed_with_check u;
  is_stuffed = Stuffs-stuffed (u ++ crc_of u);
  whole = refl;
}

-- and nothing more
pub IsSpelling-only : (u : List Level) (ack last : Level) (w : List Level) → IsSpelling u ack last w → w ≡ spelling_of u ack last
IsSpelling-only u ack last w s =
    let check : s.check ≡ crc_of u = IsCrc-only u s.check s.is_check in
    let only : s.stuffed ≡ stuffed (u ++ s.check) = stuffed-only (u ++ s.check) s.stuffed s.is_stuffed in
    s.whole ∙ ap (λ b. b ++ tail ack last) (only ∙ ap (λ c. stuffed (u ++ c)) check)

-- the longest stuffed part, of a head that is as long as the longest of its format
pub length-stuffed_with_check-le : (extended : Bool) (u : List Level) → length u ≤ cond extended 103 83 → length (stuffed_with_check u) ≤ cond extended 147 122
length-stuffed_with_check-le extended u h =
    let whole = u ++ crc_of u in
    let size : length whole ≡ length u + 15 = omega (arith, length-append u (crc_of u), length-crc_of u) in
    by extended (length u) (length (stuffed whole)) h (omega (arith, length-stuffed whole))
  where
    by : (e : Bool) (n s : ℕ) → n ≤ cond e 103 83 → 4 * s ≤ 5 * (n + 15) → s ≤ cond e 147 122
    by true n s p q = omega arith
    by false n s p q = omega arith

-- and with ten levels of tail
pub length-spelling_of-le : (extended : Bool) (u : List Level) (ack last : Level) → length u ≤ cond extended 103 83 → length (spelling_of u ack last) ≤ cond extended 157 132
length-spelling_of-le extended u ack last h =
    let part = stuffed_with_check u in
    by extended (length part) (length (spelling_of u ack last)) (length-stuffed_with_check-le extended u h) (length-append part (tail ack last))
  where
    by : (e : Bool) (s n : ℕ) → s ≤ cond e 147 122 → n ≡ s + 10 → n ≤ cond e 157 132
    by true s n p q = omega arith
    by false s n p q = omega arith

-- the wire of a frame, and what its sender drives, are spellings of its head
pub wire-spelling_of : (f : Parts) → wire f ≡ spelling_of (head f) Dominant Recessive
unfolding stuffed_part unstuffed
wire-spelling_of f = refl

pub driven-spelling_of : (f : Parts) → driven f ≡ spelling_of (head f) Recessive Recessive
unfolding stuffed_part unstuffed
driven-spelling_of f = refl

-- the parts of a frame are no longer than those of the longest frame of its format
module _ (f : Parts) (h : IsFrame f) where
  pub length-head-le : length (head f) ≤ cond f.id.extended 103 83
  length-head-le = omega (arith, length-heard_head-le (sent f) h, ap length (heard_head-sent f))

  pub length-stuffed_part-le : length (stuffed_part f) ≤ cond f.id.extended 147 122
  unfolding stuffed_part unstuffed
  length-stuffed_part-le = length-stuffed_with_check-le f.id.extended (head f) length-head-le

  pub length-wire-le : length (wire f) ≤ cond f.id.extended 157 132
  unfolding stuffed_part unstuffed
  length-wire-le = length-spelling_of-le f.id.extended (head f) Dominant Recessive length-head-le
