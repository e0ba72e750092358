-- The digits of levels, and the first byte that is bad among them.
use Rattle.std.proofs.Common.{◌≡◌, ℕ, ◌+◌, ◌<◌, ◌≤◌, ◌⊎◌, inl, inr, List, [], ◌∷◌, ◌++◌, length, get_or, take, drop, map, sym, ap, ◌∙◌, arith}
use Rattle.std.proofs.lemmas.Bool.{cases_order}
use Rattle.std.proofs.lemmas.List.{append-nil, drop_more, length-append, length-map, length-take, take-append-drop}
use Rattle.can_frame.specs.declared.level.Level.{Level}
use Rattle.can_frame.specs.Levels.{digit_of}
use Rattle.can_texts.specs.Checked.{IsFirstBadDigit, IsLevels}

-- a byte among the digits of levels is one of them
digit_there : (ls ms : List Level) (wrong : ℕ) (others behind : List ℕ) → map digit_of ls ++ wrong ∷ others ≡ map digit_of ms ++ behind → length ls < length ms
    → (level : Level) × (digit_of level ≡ wrong)
digit_there ls [] wrong others behind e less = absurd (omega arith)
digit_there [] (m ∷ ms) wrong others behind e less = (m, cc)
digit_there (l ∷ ls) (m ∷ ms) wrong others behind e less =
    let rest : map digit_of ls ++ wrong ∷ others ≡ map digit_of ms ++ behind = cc in
    digit_there ls ms wrong others behind rest (omega arith)

-- so no bad byte is at an earlier place
not_before : (digits : List ℕ) (place : ℕ) (bad : IsFirstBadDigit digits place) (ms : List Level) (behind : List ℕ) → length ms ≤ 157 → digits ≡ map digit_of ms ++ behind → ¬ (place < length ms)
not_before digits place bad ms behind within is = λ less.
    let there = digit_there bad.levels ms bad.wrong bad.others behind (sym bad.digits_are ∙ is) (omega (arith, bad.place_is)) in
    let full = bad.is_wrong there.0 there.1 in
    omega (arith, bad.place_is)

-- levels' digits have no bad byte among them
pub IsLevels-good : (digits : List ℕ) (levels : List Level) (place : ℕ) → IsLevels digits levels → ¬ IsFirstBadDigit digits place
IsLevels-good digits levels place good = λ bad.
    let less : place < length levels = omega (
      arith,
      bad.place_is,
      ap length bad.digits_are,
      ap length good.digits_are,
      length-append (map digit_of bad.levels) (bad.wrong ∷ bad.others),
      length-map bad.levels digit_of,
      length-map levels digit_of,
    ) in
    not_before digits place bad levels [] good.within (good.digits_are ∙ sym (append-nil _)) less

-- and bytes have one first bad one at most
pub IsFirstBadDigit-only : (digits : List ℕ) (p q : ℕ) → IsFirstBadDigit digits p → IsFirstBadDigit digits q → p ≡ q
IsFirstBadDigit-only digits p q a b = by_order (cases_order p q)
  where
    by_order : (p ≡ q) ⊎ ((p < q) ⊎ (q < p)) → p ≡ q
    by_order (inl same) = same
    by_order (inr (inl less)) = absurd (not_before digits p a b.levels (b.wrong ∷ b.others) b.within b.digits_are (omega (arith, b.place_is)))
    by_order (inr (inr less)) = absurd (not_before digits q b a.levels (a.wrong ∷ a.others) a.within a.digits_are (omega (arith, a.place_is)))

-- ---- levels read so far

module _ (digits : List ℕ) (levels : List Level) (place : ℕ) where
  -- the next byte is bad
  pub IsFirstBadDigit-at : place < length digits → map digit_of levels ≡ take place digits → length levels ≤ 157
      → ((level : Level) → digit_of level ≡ get_or digits place 0 → length levels ≡ 157) → IsFirstBadDigit digits place
  IsFirstBadDigit-at more so_far within is_wrong = record {
    levels = levels;
    wrong = get_or digits place 0;
    others = drop (place + 1) digits;
    within = within;
    digits_are = sym (take-append-drop place digits) ∙ ap (λ t. take place digits ++ t) (drop_more digits place 0 more)
        ∙ ap (λ t. t ++ get_or digits place 0 ∷ drop (place + 1) digits) (sym so_far);
    is_wrong = is_wrong;
    place_is = omega (arith, ap length so_far, length-map levels digit_of, length-take place digits);
  }
