-- A frame and its text, on which crates above compute their definitions.
use Rattle.std.proofs.Common.{◌≡◌, ◌++◌, false, [], refl, ap, arith, rules}
use Rattle.std.specs.Prelude.{codes}
use Rattle.can_frame.specs.Parts.{Parts, IsFrame}
use Rattle.can_frame.specs.Text.{frame_text, hex_digits}
use Rattle.can_frame.proofs.HexDigits.{encode_lower-nil}

-- the standard data frame with identifier 001 and no data
abbrev pub frame_001 : Parts
frame_001 = record { id = record { raw = 1; extended = false }; remote = false; dlc = 0; bytes = [] }

pub frame_001-whole : IsFrame frame_001
frame_001-whole = record { id = search rules; dlc = omega arith; count = refl; small = λ k. search rules }

pub text_001 : frame_text frame_001 ≡ codes "S 001 D 0"
unfolding frame_text hex_digits
text_001 = ap (λ t. codes "S 001 D 0" ++ t) encode_lower-nil
