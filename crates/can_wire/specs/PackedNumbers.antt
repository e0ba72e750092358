-- Levels in the highest bits of a register of 128 bits, followed by dominant ones: their count and the register.
use Rattle.std.specs.Prelude.{◌≡◌, ℕ, ◌-◌, ◌^◌, ◌<◌, ◌≤◌, ◌++◌, length, take, drop, replicate}
use Rattle.std.proofs.Common.{sym, ◌∙◌, ap, arith}
use Rattle.std.proofs.lemmas.List.{length-take-le, take-append-drop}
use Rattle.can_frame.specs.declared.level.Level.TheVariants.{Dominant}
use Rattle.can_frame.specs.Levels.{bits_of, number_from}
use Rattle.can_frame.specs.LevelNumbers.{length-bits_of, number_from-whole}

pub length-highest : (n x : ℕ) → n ≤ 118 → length (take n (bits_of 128 x)) ≡ n
length-highest n x few = length-take-le n (bits_of 128 x) (omega (arith, length-bits_of 128 x))

pub number_from-highest : (n x : ℕ) → x < 2 ^ 128 → drop n (bits_of 128 x) ≡ replicate (128 - n) Dominant → number_from 0 (take n (bits_of 128 x) ++ replicate (128 - n) Dominant) ≡ x
number_from-highest n x small behind =
    ap (λ t. number_from 0 (take n (bits_of 128 x) ++ t)) (sym behind) ∙ ap (number_from 0) (take-append-drop n (bits_of 128 x)) ∙ number_from-whole 128 x small
