-- The eight stored bytes of a frame are its data bytes and then zeros.
use Rattle.std.specs.Prelude.{◌≡◌, ℕ, ◌-◌, ◌≤◌, List, Bool, true, false, ◌++◌, length, take, drop, replicate}
use Rattle.std.proofs.Common.{sym, ◌∙◌, ap, arith}
use Rattle.std.proofs.lemmas.List.{length-take-le, take-append-drop}
use Rattle.can_frame.specs.Parts.{byte_count}

pub stored_again : (n : ℕ) (bytes : List ℕ) → n ≤ 8 → length bytes ≡ 8 → drop n bytes ≡ replicate (8 - n) 0 → take n bytes ++ replicate (8 - length (take n bytes)) 0 ≡ bytes
stored_again n bytes within eight rest =
    let fits : n ≤ length bytes = omega arith in
    ap (λ k. take n bytes ++ replicate (8 - k) 0) (length-take-le n bytes fits) ∙ ap (λ t. take n bytes ++ t) (sym rest) ∙ take-append-drop n bytes

pub byte_count_le : (remote : Bool) (dlc : ℕ) → byte_count remote dlc ≤ 8
byte_count_le true dlc = omega arith
byte_count_le false dlc = omega arith
