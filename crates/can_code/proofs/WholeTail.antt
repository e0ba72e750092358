-- The levels of a tail before its last one, taken at once.
use Rattle.std.proofs.Common.{◌≡◌, ℕ, ◌+◌, ◌%◌, ◌^◌, ◌≤◌, Bool, true, false, List, map, take, sym, ◌∙◌, ap, arith}
use Rattle.can_frame.specs.declared.level.Level.TheVariants.{Recessive}
use Rattle.can_wire.specs.Wire.{tail}
use Rattle.can_wire.specs.Heard.{ack_slot}
use Rattle.can_frame.specs.Levels.{digit_of}
use Rattle.can_code.specs.Digits.{HearsTail, levels_up}
use Rattle.can_code.proofs.StepLemmas.{digits-levels_up}
use Rattle.can_code.proofs.StepTable.{levels_below, levels_below-up}

-- if a number's nine lowest bits are known, so are its nine levels
nine_levels : (m low : ℕ) → m % 2 ^ 9 ≡ low → levels_up 9 m ≡ levels_below 9 (2 ^ 9 + low)
nine_levels m low is = sym (levels_below-up 9 9 m (omega arith)) ∙ ap (λ b. levels_below 9 (2 ^ 9 + b)) is

pub acknowledged : (m : ℕ) → m % 2 ^ 9 ≡ 509 → levels_up 9 m ≡ take 9 (tail (ack_slot true) Recessive)
acknowledged m is = nine_levels m 509 is

pub unacknowledged : (m : ℕ) → m % 2 ^ 9 ≡ 511 → levels_up 9 m ≡ take 9 (tail (ack_slot false) Recessive)
unacknowledged m is = nine_levels m 511 is

pub HearsTail-whole : (digits block : List ℕ) (count m : ℕ) (before acked : Bool) → block ≡ take 16 digits → count ≤ 16 → take count block ≡ map digit_of (levels_up count m) → 9 ≤ count
    → levels_up 9 m ≡ take 9 (tail (ack_slot acked) Recessive) → HearsTail 0 before 9 acked (take 9 digits)
HearsTail-whole digits block count m before acked at within are enough whole = record {
  levels = levels_up 9 m;
  digits_are = digits-levels_up digits block 0 9 count m enough within at are;
  follow = sym whole;
}
