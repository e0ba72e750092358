-- A row of digits of recessive levels, block by block.
use Rattle.std.proofs.Common.{◌≡◌, ℕ, suc, ◌+◌, ◌<◌, ◌≤◌, eqb, cond, Bool, true, false, not, List, [], ◌∷◌, ◌++◌, length, map, take, drop, replicate, refl, sym, ap, ap₂, subst, ◌∙◌, arith}
use Rattle.std.specs.List.{prefix_len}
use Rattle.std.proofs.Math.Seq.{take-add}
use Rattle.std.proofs.lemmas.Bool.{eqb-true}
use Rattle.std.proofs.lemmas.List.{take-take, length-take-le, replicate-append-replicate}
use Rattle.std.proofs.lemmas.List.Sums.{prefix_len-le-length}
use Rattle.std.proofs.lemmas.Simd.{leading_from_mask_l, trailing_mask_l}
use lib.Count.{count_trailing_zeros}
use lib.Lanes.{mask_l}

-- no digit of a recessive level
abbrev pub is_other : ℕ → Bool
is_other byte = not (eqb byte 49)

-- how many digits of recessive levels precede the first other byte
abbrev row_len : List ℕ → ℕ
row_len bytes = prefix_len (λ byte. not (is_other byte)) bytes

row_is : (bytes : List ℕ) → take (row_len bytes) bytes ≡ replicate (row_len bytes) 49
row_is [] = refl
row_is (x ∷ bytes) = by (eqb x 49) refl (row_is bytes)
  where
    n : ℕ
    n = row_len bytes

    next : 1 + n ≡ suc n
    next = omega arith

    by : (b : Bool) → eqb x 49 ≡ b → take n bytes ≡ replicate n 49 → take (cond (not (not b)) (1 + n) 0) (x ∷ bytes) ≡ replicate (cond (not (not b)) (1 + n) 0) 49
    by true is row = ap (λ k. take k (x ∷ bytes)) next ∙ ap₂ (λ y ys. y ∷ ys) (eqb-true x 49 is) row ∙ ap (λ k. replicate k 49) (sym next)
    by false is row = refl

-- after a row
pub row_longer : (bytes : List ℕ) (count more : ℕ) → take count bytes ≡ replicate count 49 → take more (drop count bytes) ≡ replicate more 49
    → take (count + more) bytes ≡ replicate (count + more) 49
row_longer bytes count more row behind = take-add count more bytes ∙ ap₂ (λ t u. t ++ u) row behind ∙ replicate-append-replicate count more 49

-- in n bytes, by the mask of the others among them
module _ (width : ℕ) (narrow : width ≤ 64) (bytes : List ℕ) (whole : width ≤ length bytes) (mask : ℕ) (is : mask ≡ mask_l (map is_other (take width bytes))) where
  size : length (take width bytes) ≡ width
  size = length-take-le width bytes whole

  pub row_through : mask ≡ 0 → take width bytes ≡ replicate width 49
  row_through none =
      let all : row_len (take width bytes) ≡ width = leading_from_mask_l is_other (take width bytes) (sym is ∙ none) ∙ size in
      sym (take-take width width bytes (omega arith)) ∙ subst (λ k. take k (take width bytes) ≡ replicate k 49) all (row_is (take width bytes))

  ends : 0 < mask → count_trailing_zeros 64 mask ≡ row_len (take width bytes)
  ends some = ap (count_trailing_zeros 64) is ∙ trailing_mask_l is_other 64 (take width bytes) (omega (arith, size, narrow)) (omega (arith, is))

  pub row_within : 0 < mask → count_trailing_zeros 64 mask ≤ width
  row_within some = omega (arith, ends some, size, prefix_len-le-length (λ byte. not (is_other byte)) (take width bytes))

  pub row_ends : 0 < mask → take (count_trailing_zeros 64 mask) bytes ≡ replicate (count_trailing_zeros 64 mask) 49
  row_ends some =
      let n = count_trailing_zeros 64 mask in
      sym (take-take n width bytes (row_within some)) ∙ subst (λ k. take k (take width bytes) ≡ replicate k 49) (sym (ends some)) (row_is (take width bytes))
