-- The value of each byte as a hexadecimal digit, in a table.
use Rattle.std.proofs.Common.{◌≡◌, ℕ, ◌<◌, ltb, cond, map, get_or, refl, sym, ◌∙◌, ap, arith}
use Rattle.std.specs.List.{range_with_len}
use Rattle.std.proofs.lemmas.Bool.{cond-true, lt-ltb}
use Rattle.std.proofs.lemmas.List.FromFn.{get_or-map-range_with_len}
use Rattle.hex.specs.Hex.{lower_digits}
use Rattle.can_frame.specs.TextParts.{IsDigit}
use Rattle.can_frame.specs.declared.text.read.TheConstants.{NUMBER_OF_DIGIT}

abbrev pub number_of : ℕ → ℕ
number_of byte = get_or NUMBER_OF_DIGIT byte 0

-- the byte is the digit of its value, if it has one
abbrev byte_again : ℕ → ℕ
byte_again byte = cond (ltb (number_of byte) 16) (get_or lower_digits (number_of byte) 0) byte

bytes_again : map byte_again (range_with_len 0 256) ≡ map (λ b. b) (range_with_len 0 256)
bytes_again = refl

-- a number that the table has for a byte is that of its digit
pub number_digit : (byte : ℕ) → byte < 256 → number_of byte < 16 → IsDigit (number_of byte) byte
number_digit byte small below =
    let same : byte_again byte ≡ byte =
    sym (get_or-map-range_with_len byte_again 0 256 byte byte 0 small (omega arith)) ∙ ap (λ t. get_or t byte 0) bytes_again ∙ get_or-map-range_with_len (λ b. b) 0 256 byte byte 0 small (omega arith) in
    (below, sym (cond-true (ltb (number_of byte) 16) (get_or lower_digits (number_of byte) 0) byte (lt-ltb (number_of byte) 16 below)) ∙ same)
