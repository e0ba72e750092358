-- The literal at an index that is a number, in two parts of a list.
use Rattle.std.proofs.Common.{◌≡◌, ℕ, suc, ◌+◌, ◌*◌, ◌^◌, ◌<◌, ◌≤◌, ◌⊎◌, inl, inr, min, Bool, true, false, cond, List, length, take, drop, get_or, sym, ◌∙◌, ap, arith}
use Rattle.std.proofs.lemmas.Bool.{cases_lt}
use Rattle.std.proofs.lemmas.List.{get_or_past, get_or-take, get_or-drop, take_all, length-take-le}
use Rattle.can_gates.specs.declared.literal.Literal.{Literal}
use Rattle.can_gates.specs.Circuit.{value, never}
use Rattle.can_gates.specs.Words.{number, bit}
use Rattle.can_gates.proofs.WordNumbers.{number-take, number-take-lt}

-- the value of the literal at this place of a list
abbrev pub value_at : (ℕ → Bool) → List Literal → ℕ → Bool
value_at v items k = value v (get_or items k never)

-- the first part of the items, at most p of them
low_part : (v : ℕ → Bool) (items : List Literal) (n half p : ℕ) → n < p → half ≡ min p (length items) → value_at v (take half items) n ≡ value_at v items n
low_part v items n half p small is = by (cases_lt n half)
  where
    by : (n < half) ⊎ (half ≤ n) → value_at v (take half items) n ≡ value_at v items n
    by (inl h) = ap (value v) (get_or-take half items n never h)
    by (inr h) =
        let long = length-take-le half items (omega (arith, is)) in ap (value v) (get_or_past (take half items) n never (omega (arith, h, long)) ∙ sym (get_or_past items n never (omega (arith, h, is, small))))

-- and those after them
high_part : (v : ℕ → Bool) (items : List Literal) (n half p : ℕ) → half ≡ min p (length items) → value_at v (drop half items) n ≡ value_at v items (n + p)
high_part v items n half p is = ap (value v) (get_or-drop half items n never) ∙ by (cases_lt (length items) p)
  where
    by : (length items < p) ⊎ (p ≤ length items) → value_at v items (half + n) ≡ value_at v items (n + p)
    by (inl h) = ap (value v) (get_or_past items (half + n) never (omega (arith, h, is)) ∙ sym (get_or_past items (n + p) never (omega (arith, h))))
    by (inr h) = let same : half + n ≡ n + p = omega (arith, h, is) in ap (value_at v items) same

-- the highest place of the number says in which of them
pub selected : (v : ℕ → Bool) → v 0 ≡ false → (items place : List Literal) (k half : ℕ) (made low high : Literal) → length place ≡ suc k → half ≡ min (2 ^ k) (length items) → value v made ≡ cond (value_at v place k) (value v high) (value v low)
    → value v low ≡ value_at v (take half items) (number v (take k place)) → value v high ≡ value_at v (drop half items) (number v (take k place)) → value v made ≡ value_at v items (number v place)
selected v zero_is items place k half made low high long is chosen is_low is_high = chosen ∙ rw (is_low, is_high) (by (value_at v place k)) ∙ ap (value_at v items) (sym whole)
  where
    n : ℕ
    n = number v (take k place)

    whole : number v place ≡ n + 2 ^ k * bit (value_at v place k)
    whole = ap (number v) (sym (take_all (suc k) place (omega (arith, long)))) ∙ number-take v zero_is place k

    by : (b : Bool) → cond b (value_at v (drop half items) n) (value_at v (take half items) n) ≡ value_at v items (n + 2 ^ k * bit b)
    by true = let same : n + 2 ^ k ≡ n + 2 ^ k * 1 = omega arith in high_part v items n half (2 ^ k) is ∙ ap (value_at v items) same
    by false = let same : n ≡ n + 2 ^ k * 0 = omega arith in low_part v items n half (2 ^ k) (number-take-lt v place k) is ∙ ap (value_at v items) same
