-- A part of a buffer between two places, and that part followed by a byte.
use Rattle.std.proofs.Common.{◌≡◌, ℕ, ◌+◌, ◌-◌, ◌<◌, ◌≤◌, List, [], ◌∷◌, ◌++◌, length, take, drop, set, sym, ap, ◌∙◌, arith}
use Rattle.std.specs.Prelude.{slice_range}
use Rattle.std.proofs.lemmas.List.{drop-append-le, length-take, length-take-le, take_more_set}
use Rattle.std.proofs.lemmas.Slice.{between_is}

pub length-slice_range : (xs : List ℕ) (a b : ℕ) → length (slice_range xs a b) ≤ b - a
length-slice_range xs a b = omega (arith, length-take (b - a) (drop a xs))

pub slice_range-set : (xs : List ℕ) (a b x : ℕ) → a ≤ b → b < length xs → slice_range (set xs b x) a (b + 1) ≡ slice_range xs a b ++ x ∷ []
slice_range-set xs a b x order within =
    between_is (set xs b x) a (b + 1) ∙ ap (drop a) (take_more_set xs b x within)
    ∙ drop-append-le a (take b xs) (x ∷ []) (omega (arith, order, length-take-le b xs (omega (arith, within))))
    ∙ ap (λ t. t ++ x ∷ []) (sym (between_is xs a b))
