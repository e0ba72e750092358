-- Lists with one level inverted.
use Rattle.std.proofs.Common.{◌≡◌, ℕ, suc, zero, ◌+◌, List, [], ◌∷◌, ◌++◌, length, refl, ◌∙◌, ap, arith}
use Rattle.can_frame.specs.declared.level.Level.{Level}
use Rattle.can_frame.specs.Levels.{opposite}
use Rattle.can_detection.specs.WrongBit.{inverted_at}

-- the level after p others
pub inverted_at-next : (a : List Level) (x : Level) (t : List Level) (p : ℕ) → length a ≡ p → inverted_at p (a ++ x ∷ t) ≡ a ++ opposite x ∷ t
inverted_at-next [] x t zero size = refl
inverted_at-next [] x t (suc p) size = absurd (omega arith)
inverted_at-next (y ∷ a) x t zero size = absurd (omega arith)
inverted_at-next (y ∷ a) x t (suc p) size = ap (λ l. y ∷ l) (inverted_at-next a x t p (omega arith))

-- a level of what follows a list
pub inverted_at-after : (s t : List Level) (k : ℕ) → inverted_at (length s + k) (s ++ t) ≡ s ++ inverted_at k t
inverted_at-after [] t k = ap (λ n. inverted_at n t) (let e : 0 + k ≡ k = omega arith in e)
inverted_at-after (x ∷ s) t k =
    let e : suc (length s) + k ≡ suc (length s + k) = omega arith in
    ap (λ n. inverted_at n (x ∷ (s ++ t))) e ∙ ap (λ l. x ∷ l) (inverted_at-after s t k)
