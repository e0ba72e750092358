-- The common front of digits is that of their levels.
use Rattle.std.proofs.Common.{◌≡◌, ℕ, ◌+◌, ◌<◌, ◌≤◌, List, [], ◌∷◌, ◌++◌, length, get_or, take, map, sym, ap, ◌∙◌, arith}
use Rattle.std.proofs.lemmas.List.{length-append, length-map, length-take, map-append, take-map, take_more}
use Rattle.can_frame.specs.declared.level.Level.{Level}
use Rattle.can_frame.specs.Levels.{digit_of}
use Rattle.can_frame.proofs.LevelDigits.{one-digits}
use Rattle.can_texts.specs.Checked.{IsCommonFront}

pub IsCommonFront-levels : (levels own : List Level) (digits driven : List ℕ) (n : ℕ) → digits ≡ map digit_of levels → driven ≡ map digit_of own → IsCommonFront digits driven n → IsCommonFront levels own n
IsCommonFront-levels levels own digits driven n digits_are driven_are is = record {
  within = (omega (arith, is.within.0, ap length digits_are, length-map levels digit_of), omega (arith, is.within.1, ap length driven_are, length-map own digit_of));
  same = one-digits (take n levels) (take n own)
      (sym (take-map digit_of n levels) ∙ ap (take n) (sym digits_are) ∙ is.same ∙ ap (take n) driven_are ∙ take-map digit_of n own);
  longest = λ m more short other same.
      is.longest m more (omega (arith, short, ap length digits_are, length-map levels digit_of)) (omega (arith, other, ap length driven_are, length-map own digit_of))
      (ap (take m) digits_are ∙ take-map digit_of m levels ∙ ap (map digit_of) same ∙ sym (take-map digit_of m own) ∙ ap (take m) (sym driven_are));
}

-- levels whose digits precede a place, and one more
pub record HasLevels (digits : List ℕ) (place : ℕ) : Type 0 where
  pub levels : List Level
  pub so_far : map digit_of levels ≡ take place digits
  pub within : length levels ≤ 157

pub HasLevels-more : (digits : List ℕ) (place : ℕ) (level : Level) → HasLevels digits place → place < length digits → place < 157 → digit_of level ≡ get_or digits place 0 → HasLevels digits (place + 1)
HasLevels-more digits place level has more few digit = record {
  levels = has.levels ++ level ∷ [];
  so_far = map-append digit_of has.levels (level ∷ []) ∙ ap (λ t. t ++ digit_of level ∷ []) has.so_far ∙ ap (λ x. take place digits ++ x ∷ []) digit ∙ sym (take_more digits place 0 more);
  within = omega (arith, length-append has.levels (level ∷ []), ap length has.so_far, length-map has.levels digit_of, length-take place digits, few);
}
