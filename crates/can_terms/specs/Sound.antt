-- Lists that a call accepts: each item may follow the one before it, and each names an existing node. (docs/BUS.md,
-- "Refusals")
use Rattle.std.specs.Prelude.{ℕ, ◌≡◌, ◌+◌, Bool, true, List, Some, slice_get}

-- `follows item last` decides whether the item may follow this last one
module _ {A : Type 0} (follows : A → A → Bool) where
  -- the item at this place may follow the one before it
  abbrev pub FollowsLast : List A → ℕ → A → Type 0
  FollowsLast items place item = (n : ℕ) (last : A) → n + 1 ≡ place → slice_get items n ≡ Some last → follows item last ≡ true

-- `names ports item` decides whether the item's node is one of this number of nodes
module _ {A : Type 0} (follows : A → A → Bool) (names : ℕ → A → Bool) where
  -- each item may follow the one before it, and its node exists
  abbrev pub AreSound : ℕ → List A → Type 0
  AreSound ports items = (place : ℕ) (item : A) → slice_get items place ≡ Some item → FollowsLast follows items place item × (names ports item ≡ true)
