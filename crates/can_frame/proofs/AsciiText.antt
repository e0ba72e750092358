-- Each byte of a frame's text is ASCII.
use Rattle.std.proofs.Common.{◌≡◌, ℕ, zero, suc, ◌+◌, ◌/◌, ◌%◌, ◌^◌, ◌<◌, nat_lt, Bool, true, false, cond, List, [], ◌∷◌, ◌++◌, get_or, refl, sym, subst, arith}
use Rattle.std.specs.Str.{IsAscii}
use Rattle.std.proofs.lemmas.Bool.{ltb-true}
use Rattle.std.proofs.lemmas.List.Elements.{All-weaker}
use Rattle.std.proofs.lemmas.List.Sums.{AllPass-from_list_all}
use Rattle.std.proofs.lemmas.Str.{IsAscii-append}
use Rattle.std.proofs.lemmas.Str.Ascii.{IsAscii-nil, IsAscii-cons, IsAscii-from_all}
use Rattle.hex.specs.Hex.{lower_digits}
use Rattle.hex.proofs.HexLemmas.{IsAscii-encode_with}
use Rattle.can_frame.specs.Parts.{Parts, IsFrame}
use Rattle.can_frame.specs.Text.{frame_text, letter_part, identifier_part, direction_part, dlc_part, data_part, hex_digits, decimal_digits, identifier_digits, blank_before, blank}
use Rattle.can_frame.specs.TextParts.{letter_spelling}
use Rattle.can_frame.proofs.PartsTold.{letter_part_is, direction_part_is}

lower_digits_are_ascii : IsAscii lower_digits
lower_digits_are_ascii =
    IsAscii-from_all lower_digits
    (All-weaker (λ b. nat_lt b 128 ≡ true) (λ b. b < 128) (λ b. ltb-true b 128) lower_digits
    (AllPass-from_list_all (λ b. nat_lt b 128) lower_digits refl))

hex_digits_are_ascii : (k n : ℕ) → IsAscii (hex_digits k n)
unfolding hex_digits
hex_digits_are_ascii zero n = IsAscii-nil
hex_digits_are_ascii (suc k) n =
    IsAscii-cons (get_or lower_digits (n / 16 ^ k % 16) 0) (hex_digits k n) (lower_digits_are_ascii (n / 16 ^ k % 16))
    (hex_digits_are_ascii k n)

decimal_is_ascii : (n : ℕ) (b : Bool) → n < 80 → IsAscii (cond b ((48 + n) ∷ []) ((48 + n / 10) ∷ (48 + n % 10) ∷ []))
decimal_is_ascii n true small = IsAscii-cons (48 + n) [] (omega arith) IsAscii-nil
decimal_is_ascii n false small =
    IsAscii-cons (48 + n / 10) ((48 + n % 10) ∷ []) (omega arith) (IsAscii-cons (48 + n % 10) [] (omega arith) IsAscii-nil)

blank_is_ascii : IsAscii blank
blank_is_ascii = IsAscii-cons 32 [] (omega arith) IsAscii-nil

blank_before_is_ascii : (bytes : List ℕ) → IsAscii (blank_before bytes)
blank_before_is_ascii [] = IsAscii-nil
blank_before_is_ascii (b ∷ bytes) = blank_is_ascii

letter_is_ascii : (first second : ℕ) (b : Bool) → first < 128 → second < 128 → IsAscii (letter_spelling first second b)
letter_is_ascii first second true h k = IsAscii-cons second blank k blank_is_ascii
letter_is_ascii first second false h k = IsAscii-cons first blank h blank_is_ascii

pub frame_text_is_ascii : (f : Parts) → IsFrame f → IsAscii (frame_text f)
unfolding frame_text
frame_text_is_ascii f whole =
    let letter = subst IsAscii (sym (letter_part_is f)) (letter_is_ascii 83 69 f.id.extended (omega arith) (omega arith)) in
    let direction = subst IsAscii (sym (direction_part_is f)) (letter_is_ascii 68 82 f.remote (omega arith) (omega arith)) in
    let digits = hex_digits (identifier_digits f.id.extended) f.id.raw in
    let identifier = IsAscii-append digits blank (hex_digits_are_ascii (identifier_digits f.id.extended) f.id.raw) blank_is_ascii in
    let dlc = IsAscii-append (decimal_digits f.dlc) (blank_before f.bytes) (decimal_is_ascii f.dlc (nat_lt f.dlc 10) (omega (arith, whole.dlc)))
    (blank_before_is_ascii f.bytes) in
    let end = IsAscii-append (dlc_part f) (data_part f) dlc (IsAscii-encode_with lower_digits f.bytes lower_digits_are_ascii) in
    IsAscii-append (letter_part f) (identifier_part f ++ (direction_part f ++ (dlc_part f ++ data_part f))) letter
    (IsAscii-append (identifier_part f) (direction_part f ++ (dlc_part f ++ data_part f)) identifier
    (IsAscii-append (direction_part f) (dlc_part f ++ data_part f) direction end))
