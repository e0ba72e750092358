-- How long a frame's text is.
use Rattle.std.proofs.Common.{◌≡◌, ℕ, ◌+◌, ◌/◌, ◌%◌, ◌≤◌, nat_lt, Bool, true, false, cond, List, [], ◌∷◌, ◌++◌, length, codes, refl, arith, length-append}
use Rattle.hex.proofs.HexLemmas.{length-encode_with}
use Rattle.hex.specs.Hex.{lower_digits}
use Rattle.can_frame.specs.Parts.{Parts, IsFrame}
use Rattle.can_frame.specs.Stored.{byte_count_le}
use Rattle.can_frame.specs.Text.{frame_text, hex_digits, decimal_digits, identifier_digits, letter_part, identifier_part, direction_part, dlc_part, data_part, blank_before, blank}
use Rattle.can_frame.proofs.HexDigits.{length-hex_digits}

pub length-decimal_digits : (n : ℕ) → length (decimal_digits n) ≤ 2
length-decimal_digits n = by_size (nat_lt n 10)
  where
    by_size : (b : Bool) → length (cond b ((48 + n) ∷ []) ((48 + n / 10) ∷ (48 + n % 10) ∷ [])) ≤ 2
    by_size true = omega arith
    by_size false = omega arith

length-blank_before : (bytes : List ℕ) → length (blank_before bytes) ≤ 1
length-blank_before [] = omega arith
length-blank_before (b ∷ bytes) = omega arith

length-letter : (b : Bool) → length (cond b (codes "E") (codes "S") ++ blank) ≡ 2
length-letter true = refl
length-letter false = refl

length-direction : (b : Bool) → length (cond b (codes "R") (codes "D") ++ blank) ≡ 2
length-direction true = refl
length-direction false = refl

identifier_digits_le : (b : Bool) → identifier_digits b ≤ 8
identifier_digits_le true = omega arith
identifier_digits_le false = omega arith

pub length-frame_text : (f : Parts) → IsFrame f → length (frame_text f) ≤ 32
unfolding frame_text
length-frame_text f whole =
    let identifier = length-append (hex_digits (identifier_digits f.id.extended) f.id.raw) blank in
    let dlc = length-append (decimal_digits f.dlc) (blank_before f.bytes) in
    let data_and_dlc = length-append (dlc_part f) (data_part f) in
    let from_direction = length-append (direction_part f) (dlc_part f ++ data_part f) in
    let from_identifier = length-append (identifier_part f) (direction_part f ++ (dlc_part f ++ data_part f)) in
    let all = length-append (letter_part f) (identifier_part f ++ (direction_part f ++ (dlc_part f ++ data_part f))) in
    omega (
      arith,
      all,
      from_identifier,
      from_direction,
      data_and_dlc,
      identifier,
      dlc,
      length-letter f.id.extended,
      length-hex_digits (identifier_digits f.id.extended) f.id.raw,
      identifier_digits_le f.id.extended,
      length-direction f.remote,
      length-decimal_digits f.dlc,
      length-blank_before f.bytes,
      length-encode_with lower_digits f.bytes,
      whole.count,
      byte_count_le f.remote f.dlc,
    )
