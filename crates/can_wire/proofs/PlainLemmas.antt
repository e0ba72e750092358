-- Numbers and CRC sequences read from a list of levels.
use Rattle.std.proofs.Common.{◌≡◌, ℕ, suc, zero, ◌+◌, ◌-◌, ◌*◌, ◌<◌, ◌≤◌, ◌^◌, List, [], ◌∷◌, ◌++◌, length, take, drop, refl, sym, ◌∙◌, ap, subst, arith, length-append}
use Rattle.std.proofs.lemmas.List.{length-drop, drop-append-le, take-append-le}
use mir.Val.{bool_byte}
use Rattle.can_frame.specs.declared.level.Level.{Level}
use Rattle.can_frame.specs.declared.level.Level.TheVariants.{Dominant, Recessive}
use Rattle.can_frame.specs.Levels.{bits_of, is_recessive, number_from}
use Rattle.can_wire.specs.Crc.{IsCrc}
use Rattle.can_wire.specs.Layout.{check_of, filled, head_of, levels_at}
use Rattle.can_wire.proofs.LayoutNumbers.{bits_of-number_from, number_from-append, number_from-whole}

filled-take : (n : ℕ) (u : List Level) → n ≤ length u → filled n u ≡ take n u
filled-take zero u h = refl
filled-take (suc n) [] h = absurd (omega arith)
filled-take (suc n) (x ∷ u) h = ap (λ t. x ∷ t) (filled-take n u (omega arith))

-- the levels from p on, as a part of the list
pub levels_at-part : (u : List Level) (p n : ℕ) → p + n ≤ length u → levels_at u p n ≡ take (p + n - p) (drop p u)
levels_at-part u p n h =
    let size : n ≤ length (drop p u) = omega (arith, length-drop p u) in
    let same : n ≡ p + n - p = omega arith in
    filled-take n (drop p u) size ∙ ap (λ k. take k (drop p u)) same

-- the number of fifteen levels determines whether they are the CRC sequence of b
module _ (b c : List Level) (n : ℕ) (fifteen : length c ≡ 15) where
  pub IsCrc-from_number : IsCrc b (bits_of 15 n) → number_from 0 c ≡ n → IsCrc b c
  IsCrc-from_number is e = subst (IsCrc b) (ap (bits_of 15) (sym e) ∙ bits_of-number_from 15 0 c fifteen) is

  pub IsCrc-number : n < 2 ^ 15 → (IsCrc b c → c ≡ bits_of 15 n) → IsCrc b c → number_from 0 c ≡ n
  IsCrc-number small only is = ap (number_from 0) (only is) ∙ number_from-whole 15 n small

-- with one level appended to a list, its last fifteen levels begin one place later
pub check_of-further : (u : List Level) (level : Level) → 14 ≤ length u → check_of (u ++ level ∷ []) ≡ drop (length u - 14) u ++ level ∷ []
check_of-further u level long =
    let place : length (u ++ level ∷ []) - 15 ≡ length u - 14 = omega (arith, length-append u (level ∷ [])) in
    ap (λ k. drop k (u ++ level ∷ [])) place ∙ drop-append-le (length u - 14) u (level ∷ []) (omega arith)

pub head_of-further : (u : List Level) (level : Level) → 14 ≤ length u → head_of (u ++ level ∷ []) ≡ take (length u - 14) u
head_of-further u level long =
    let place : length (u ++ level ∷ []) - 15 ≡ length u - 14 = omega (arith, length-append u (level ∷ [])) in
    ap (λ k. take k (u ++ level ∷ [])) place ∙ take-append-le (length u - 14) u (level ∷ []) (omega arith)

-- the number of levels and of one more after them
number_from-level : (n : ℕ) (level : Level) → number_from n (level ∷ []) ≡ 2 * n + bool_byte (is_recessive level)
number_from-level n Dominant = omega arith
number_from-level n Recessive = omega arith

pub number_from-further : (a : List Level) (level : Level) → number_from 0 (a ++ level ∷ []) ≡ 2 * number_from 0 a + bool_byte (is_recessive level)
number_from-further a level = number_from-append 0 a (level ∷ []) ∙ number_from-level (number_from 0 a) level
