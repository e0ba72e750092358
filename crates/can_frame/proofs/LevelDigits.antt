-- The digits of levels determine them.
use Rattle.std.proofs.Common.{◌≡◌, List, [], ◌∷◌, map, refl, arith}
use Rattle.can_frame.specs.declared.level.Level.{Level}
use Rattle.can_frame.specs.declared.level.Level.TheVariants.{Dominant, Recessive}
use Rattle.can_frame.specs.Levels.{digit_of}

pub one-digit : (x y : Level) → digit_of x ≡ digit_of y → x ≡ y
one-digit Dominant Dominant same = refl
one-digit Recessive Recessive same = refl
one-digit Dominant Recessive same = absurd (omega (arith, same))
one-digit Recessive Dominant same = absurd (omega (arith, same))

pub one-digits : (xs ys : List Level) → map digit_of xs ≡ map digit_of ys → xs ≡ ys
one-digits [] [] same = refl
one-digits [] (y ∷ ys) same = cc
one-digits (x ∷ xs) [] same = cc
one-digits (x ∷ xs) (y ∷ ys) same =
    let first : digit_of x ≡ digit_of y = cc in
    let rest : map digit_of xs ≡ map digit_of ys = cc in
    let head = one-digit x y first in
    let others = one-digits xs ys rest in
    λ i. head i ∷ others i
