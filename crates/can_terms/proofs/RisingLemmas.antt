-- Times that are looked through one by one.
use Rattle.std.specs.Prelude.{slice_get, ◌⊎◌, IsSomeAnd}
use Rattle.std.proofs.Common.{◌≡◌, ℕ, ◌+◌, ◌<◌, ◌≤◌, List, Some}
use Rattle.can_terms.specs.declared.timed.Timed.{Timed}

-- the first n times rise and stay below the limit, and no later one may come before this least
pub record AreUpTo {A : Type 0} (xs : List (Timed A)) (limit n least : ℕ) : Type 0 where
  pub rising : (j k : ℕ) (x y : Timed A) → j < k → k < n → slice_get xs j ≡ Some x → slice_get xs k ≡ Some y → x.time < y.time
  pub before : (k : ℕ) (x : Timed A) → k < n → slice_get xs k ≡ Some x → x.time < least
  pub bound : least ≤ limit
  pub last : (least ≡ 0) ⊎ ((k : ℕ) × (k < n) × IsSomeAnd (slice_get xs k) (λ x. least ≡ x.time + 1))
