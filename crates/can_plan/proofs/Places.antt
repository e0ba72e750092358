-- The message at a place of a message set.
use Rattle.std.proofs.Common.{◌≡◌, ℕ, zero, suc, ◌+◌, Option, Some, None, List, [], ◌∷◌, ◌++◌, take, drop, sym, ◌∙◌, ap, subst, arith}
use Rattle.std.specs.Prelude.{slice_get, MatchOption, IfSome}
use Rattle.can_plan.specs.declared.message.Message.{Message}
use Rattle.can_plan.specs.Messages.{IsMessageSet}
use Rattle.can_plan.specs.Analysis.{ranking_at, IsBound, IsLeastBound}
use Rattle.can_plan.specs.Ends.{EndAlways}
use Rattle.can_plan.proofs.Ends.{ends-always}

split-at : (ms : List Message) (k : ℕ) (m : Message) → slice_get ms k ≡ Some m → ms ≡ take k ms ++ m ∷ drop (k + 1) ms
split-at [] k m e = cc
split-at (x ∷ ms) zero m e = let same : x ≡ m = (let h : Some x ≡ Some m = e in cc) in ap (λ y. y ∷ ms) same
split-at (x ∷ ms) (suc k) m e =
    let next : suc k + 1 ≡ suc (k + 1) = omega arith in
    ap (λ l. x ∷ l) (split-at ms k m e) ∙ ap (λ n. x ∷ (take k ms ++ m ∷ drop n (x ∷ ms))) (sym next)

-- a bound holds
pub holds-at : (most : ℕ → ℕ) (limit : ℕ) (ms : List Message) (k : ℕ) (m : Message) → slice_get ms k ≡ Some m → IsMessageSet ms → (bound : ℕ) →
    IsBound most limit (ranking_at ms k m) bound → EndAlways most ms m bound
holds-at most limit ms k m at is bound found =
    let whole = split-at ms k m at in
    subst (λ l. EndAlways most l m bound) (sym whole) (ends-always (ranking_at ms k m) most limit bound (subst IsMessageSet whole is) found)

pub some-holds : (most : ℕ → ℕ) (limit : ℕ) (ms : List Message) (k : ℕ) (m : Message) → slice_get ms k ≡ Some m → IsMessageSet ms → (result : Option ℕ) →
    MatchOption result ((other : ℕ) → IsBound most limit (ranking_at ms k m) other → ⊥) (λ b. IsLeastBound most limit (ranking_at ms k m) b) → IfSome result (λ b. EndAlways most ms m b)
some-holds most limit ms k m at is None found = tt
some-holds most limit ms k m at is (Some bound) found = holds-at most limit ms k m at is bound found.is
