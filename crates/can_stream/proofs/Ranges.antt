-- A part of a buffer.
use Rattle.std.proofs.Common.{◌≡◌, ℕ, ◌+◌, ◌-◌, ◌≤◌, List, take, drop, slice_range, ap, ◌∙◌, arith}
use Rattle.std.proofs.lemmas.List.{drop-take, drop-drop}

-- the part without its first bytes
pub drop-slice_range : (xs : List ℕ) (start end count : ℕ) → start + count ≤ end
    → drop count (slice_range xs start end) ≡ slice_range xs (start + count) end
drop-slice_range xs start end count inside =
    let parts : end - start ≡ count + (end - (start + count)) = omega arith in
    ap (λ j. drop count (take j (drop start xs))) parts ∙ drop-take count _ (drop start xs)
    ∙ ap (take (end - (start + count))) (drop-drop count start xs)
