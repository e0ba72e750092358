-- The table, place by place.
use Rattle.std.proofs.Common.{◌≡◌, ℕ, zero, suc, ◌+◌, ◌*◌, ◌^◌, ◌<◌, ◌≤◌, List, [], ◌∷◌, ◌++◌, length, get_or, length-append, max, subst, sym, ◌∙◌, ap, arith, refl, slice_get, Some}
use Rattle.std.specs.Prelude.{bit_xor}
use Rattle.std.proofs.lemmas.Nat.{xor_lt}
use Rattle.std.proofs.lemmas.Option.{slice_get_read, slice_get_within, get_or_from_slice_get}
use Rattle.can_frame.specs.declared.level.Level.{Level}
use Rattle.can_frame.specs.declared.level.Level.TheVariants.{Dominant, Recessive}
use Rattle.can_frame.specs.Levels.{bits_of}
use Rattle.can_wire.specs.Crc.{crc_of, xor}
use Rattle.can_wire.specs.Stuffing.{stuffed_from}
use Rattle.can_wire.proofs.DivisionLemmas.{none}
use Rattle.can_wire.proofs.LevelLemmas.{bits_of-xor}
use Rattle.can_wire.proofs.XorLemmas.{length-xor}
use Rattle.can_longest.specs.declared.rows.Ahead.{Ahead}
use Rattle.can_longest.specs.declared.rows.Row.{Row}
use Rattle.can_longest.specs.ToCome.{AreRows, IsAhead, IsRow, next_check, most, turned}
use Rattle.can_longest.proofs.Greatest.{most-le, most-suc}
use Rattle.can_longest.proofs.CheckSums.{length-added, next_check-dominant}
use Rattle.can_longest.proofs.Turned.{length-turned, most-opposite, next_check-opposite, turned-suc}

-- what is true of each element at its place stays true with one more after them
pub pushed : {X : Type 0} (P : ℕ → X → Type 0) (old : List X) (x : X) → ((k : ℕ) (y : X) → slice_get old k ≡ Some y → P k y) → P (length old) x
    → (k : ℕ) (y : X) → slice_get (old ++ x ∷ []) k ≡ Some y → P k y
pushed P [] x each here zero y at = subst (P 0) (get_or_from_slice_get (x ∷ []) 0 y x at) here
pushed P [] x each here (suc k) y at = absurd (let within : suc k < 1 = slice_get_within (x ∷ []) (suc k) y at in omega arith)
pushed P (z ∷ old) x each here zero y at = each 0 y at
pushed P (z ∷ old) x each here (suc k) y at = pushed (λ n. P (suc n)) old x (λ n v e. each (suc n) v e) here k y at

-- one row more
pub row_added : (n : ℕ) (old new : List Row) (row : Row) → new ≡ old ++ row ∷ [] → AreRows n old → IsRow (8 * n) row → AreRows (n + 1) new
row_added n old new row new_is are is =
    subst (AreRows (n + 1)) (sym new_is) (record {
      full = omega (arith, length-append old (row ∷ []), are.full);
      each = pushed (λ k r. IsRow (8 * k) r) old row are.each (subst (λ k. IsRow (8 * k) row) (sym are.full) is);
    })

pub row_at : (n k : ℕ) (rows : List Row) (row : Row) → AreRows n rows → k < n → row ≡ get_or rows k row → IsRow (8 * k) row
row_at n k rows row are less is = are.each k row (slice_get_read rows n k row (sym are.full) less is)

-- an entry of a row
pub entry_at : (k : ℕ) (row : Row) → IsRow k row → (p q : ℕ) → p ≡ q → q < 2 ^ 15 → (a : Ahead) → a ≡ get_or row.ahead.items p a → IsAhead k (bits_of 15 q) a
entry_at k row is p q same less a at =
    let there : a ≡ get_or row.ahead.items q a = at ∙ ap (λ n. get_or row.ahead.items n a) same in
    is.each q a (slice_get_read row.ahead.items (2 ^ 15) q a (sym is.full) less there)

-- that of a sum of CRC sequences
pub entry_of_sum : (k : ℕ) (row : Row) → IsRow k row → (p check t : ℕ) → p ≡ bit_xor check t → check < 2 ^ 15 → t < 2 ^ 15 → (a : Ahead) → a ≡ get_or row.ahead.items p a
    → IsAhead k (xor (bits_of 15 check) (bits_of 15 t)) a
entry_of_sum k row is p check t same small t_small a at =
    subst (λ c. IsAhead k c a) (bits_of-xor 15 check t) (entry_at k row is p (bit_xor check t) same (xor_lt 15 check t small t_small) a at)

-- it is not much
pub record AreFew (a : Ahead) : Type 0 where
  pub one : a.one < 200
  pub two : a.two < 200
  pub three : a.three < 200
  pub four : a.four < 200

pub IsAhead-few : (k : ℕ) (check : List Level) (a : Ahead) → length check ≡ 15 → IsAhead k check a → k < 64 → AreFew a
IsAhead-few k check a size is less =
    let few : (run : ℕ) → most k Dominant run check ≤ 2 * (k + 15) = λ run. most-le k Dominant run check size in
    record { one = omega (arith, is.one, few 1); two = omega (arith, is.two, few 2); three = omega (arith, is.three, few 3); four = omega (arith, is.four, few 4) }

bits_of-one : bits_of 1 1 ≡ Recessive ∷ []
unfolding bits_of
bits_of-one = refl

-- the sum of two opposite CRC sequences, with one more level
pub turned_added : (k t a : ℕ) → bits_of 15 t ≡ turned k → bits_of 15 a ≡ crc_of (bits_of 1 1 ++ none k) → bits_of 15 (bit_xor t a) ≡ turned (suc k)
turned_added k t a t_is a_is =
    bits_of-xor 15 t a ∙ ap (λ u. xor u (bits_of 15 a)) t_is ∙ ap (xor (turned k)) (a_is ∙ ap (λ u. crc_of (u ++ none k)) bits_of-one) ∙ sym (turned-suc k)

pub turned_none : bits_of 15 0x7fff ≡ turned 0
unfolding turned bits_of
turned_none = refl

-- the maximum that follows a CRC sequence alone
pub IsAhead-none : (check : List Level) (a : Ahead) → a.one ≡ length (stuffed_from Dominant 1 check) → a.two ≡ length (stuffed_from Dominant 2 check)
    → a.three ≡ length (stuffed_from Dominant 3 check) → a.four ≡ length (stuffed_from Dominant 4 check) → IsAhead 0 check a
unfolding most
IsAhead-none check a one two three four = record { one = one; two = two; three = three; four = four }

-- and with one level more
module _ (k : ℕ) (check : List Level) (size : length check ≡ 15) (dominant : Ahead) (is : IsAhead k check dominant) (fifth recessive : ℕ)
    (fifth_is : fifth ≡ most k Dominant 1 (xor check (turned k))) (recessive_is : recessive ≡ most k Dominant 1 (xor check (turned (suc k)))) where
  same : next_check k check Dominant ≡ check
  same = next_check-dominant k check size

  behind_fifth : most k Recessive 1 (next_check k check Dominant) ≡ fifth
  behind_fifth = ap (most k Recessive 1) same ∙ most-opposite k Dominant 1 check size ∙ sym fifth_is

  behind_recessive : most k Recessive 1 (next_check k check Recessive) ≡ recessive
  behind_recessive =
      let next = next_check k check Recessive in
      let other = xor check (turned (suc k)) in
      let fifteen : length other ≡ 15 = length-xor check (turned (suc k)) (omega (arith, size, length-turned (suc k))) ∙ size in
      most-opposite k Dominant 1 next (length-added check (Recessive ∷ none k) size)
      ∙ ap (most k Dominant 1) (next_check-opposite k check Recessive size ∙ next_check-dominant k other fifteen) ∙ sym recessive_is

  pub IsAhead-suc : (a : Ahead) → a.one ≡ max dominant.two recessive + 1 → a.two ≡ max dominant.three recessive + 1 → a.three ≡ max dominant.four recessive + 1
      → a.four ≡ max (fifth + 2) (recessive + 1) → IsAhead (suc k) check a
  IsAhead-suc a one two three four = record {
    one = omega (arith, one, most-suc k Dominant 1 check, ap (most k Dominant 2) same, is.two, behind_recessive);
    two = omega (arith, two, most-suc k Dominant 2 check, ap (most k Dominant 3) same, is.three, behind_recessive);
    three = omega (arith, three, most-suc k Dominant 3 check, ap (most k Dominant 4) same, is.four, behind_recessive);
    four = omega (arith, four, most-suc k Dominant 4 check, behind_fifth, behind_recessive);
  }
