-- The levels of a number give the number back, and the number of some levels gives the levels.
use Rattle.std.proofs.Common.{◌≡◌, ℕ, ◌/◌, ◌^◌, List, ◌++◌, length, sym, ◌∙◌, ap}
use Rattle.std.proofs.lemmas.Nat.{div-mul-add}
use Rattle.can_frame.specs.declared.level.Level.{Level}
use Rattle.can_frame.specs.Levels.{bits_of, number_from}
use Rattle.can_frame.proofs.LevelLemmas.{bits_of-number_from as levels_back}
pub use Rattle.can_frame.proofs.LevelLemmas.{length-bits_of, number_from-bits_of, number_from-whole, number_from-append, number_from-split, number_from-lt}

-- the number without its k last levels
pub number_from-upper : (n k : ℕ) (a b : List Level) → length b ≡ k → number_from n (a ++ b) / 2 ^ k ≡ number_from n a
number_from-upper n k a b size =
    let below = number_from-lt b in
    ap (λ t. number_from n (a ++ b) / 2 ^ t) (sym size)
    ∙ ap (λ t. t / 2 ^ length b) (number_from-append n a b ∙ number_from-split (number_from n a) b)
    ∙ div-mul-add (number_from n a) (2 ^ length b) (number_from 0 b) below

-- the number of some levels has those levels, whatever precedes them
pub bits_of-number_from : (k n : ℕ) (a : List Level) → length a ≡ k → bits_of k (number_from n a) ≡ a
bits_of-number_from k n a size = ap (λ m. bits_of m (number_from n a)) (sym size) ∙ levels_back n a
