-- When a stuffed part has ended, and what its CRC sequence means.
use Rattle.std.proofs.Common.{◌≡◌, ◌≢◌, Bool, true, false, List, ◌↔◌, refl, sym, subst, ◌∙◌, ap, cond}
use Rattle.std.specs.Prelude.{◌&&◌, not, IsTrue}
use Rattle.std.specs.Bool.{Decides, one_answer}
use Rattle.std.specs.Cmp.Lexicographic.{pointwise_decides}
use Rattle.std.proofs.Math.Dec.{eqb}
use Rattle.std.proofs.lemmas.Bool.{cond-true}
use Rattle.can_frame.specs.declared.level.Level.{Level}
use Rattle.can_frame.specs.Parts.{Parts}
use Rattle.can_code.specs.declared.front.Place.TheVariants.{StuffBit, Bit, CrcDelimiter as ended}
use Rattle.can_wire.specs.Crc.{IsCrc, crc_of}
use Rattle.can_wire.specs.Layout.{check_of, frame_of, head_of}
use Rattle.can_code.specs.Front.{FrontParts, has_check, next_place}
use Rattle.can_wire.proofs.DivisionLemmas.{IsCrc-crc_of, IsCrc-only}
use Rattle.can_mac.specs.declared.phase.Reading.{Reading}
use Rattle.can_mac.specs.declared.phase.Phase.TheVariants.{StuffedPart, CrcDelimiter}
use Rattle.can_mac.specs.Moves.{agrees, ends_part, part_phase, reading_of}
use Rattle.can_frame.proofs.LevelTests.{same-Decides}

-- the stuffed part has ended exactly if the next place is the CRC delimiter
module _ (f : FrontParts) where
  pub ends_part-ended : next_place f ≡ ended → ends_part f ≡ true
  ends_part-ended h = by_tests (eqb f.run 5) (has_check f.unstuffed) h
    where
      by_tests : (due whole : Bool) → cond due StuffBit (cond whole ended Bit) ≡ ended → (whole && not due) ≡ true
      by_tests true whole h = cc
      by_tests false true h = refl
      by_tests false false h = cc

  pub ends_part-partial : next_place f ≢ ended → ends_part f ≡ false
  ends_part-partial h = by_tests (eqb f.run 5) (has_check f.unstuffed) h
    where
      by_tests : (due whole : Bool) → cond due StuffBit (cond whole ended Bit) ≢ ended → (whole && not due) ≡ false
      by_tests true true h = refl
      by_tests true false h = refl
      by_tests false true h = absurd (h refl)
      by_tests false false h = refl

-- there is only one CRC sequence, so any correct one is equal to it
pub agrees-Decides : (u : List Level) → Decides (agrees u) (IsCrc (head_of u) (check_of u))
unfolding agrees
agrees-Decides u =
    let d = pointwise_decides same-Decides (check_of u) (crc_of (head_of u)) in
    let P : List Level → Type 0 = λ c. IsCrc (head_of u) c in
    (λ e. subst P (sym (d.0 e)) (IsCrc-crc_of (head_of u)), λ is. d.1 (IsCrc-only (head_of u) (check_of u) is))

pub agrees-told : (u : List Level) (told : Bool) → (IsTrue told ↔ IsCrc (head_of u) (check_of u)) → told ≡ agrees u
agrees-told u told h = one_answer told (agrees u) (h.0, h.1) (agrees-Decides u)

-- what the unstuffed levels encode if the stuffed part has ended
pub part_ended : (f : FrontParts) (frame : Parts) (told : Bool) → next_place f ≡ ended → frame ≡ frame_of f.unstuffed
    → (IsTrue told ↔ IsCrc (head_of f.unstuffed) (check_of f.unstuffed)) → CrcDelimiter (record { frame = frame; agrees = told }) ≡ part_phase f
part_ended f frame told at_end same_frame check =
    let reading : Reading = record { frame = frame; agrees = told } in
    let same_reading : reading ≡ reading_of f.unstuffed = rw (same_frame, agrees-told f.unstuffed told check) in
    ap CrcDelimiter same_reading
    ∙ sym (cond-true (ends_part f) (CrcDelimiter (reading_of f.unstuffed)) (StuffedPart f) (ends_part-ended f at_end))
