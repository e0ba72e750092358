-- What one call of the analysis has found for the next.
use Rattle.std.specs.Prelude.{ℕ, ◌≡◌, ◌+◌, ◌<◌, ◌≤◌, List, Some, slice_get}
use Rattle.can_plan.specs.declared.message.Message.{Message}
use Rattle.can_plan.specs.Analysis.{busied, ranking_at}

-- no busy period of the message before this place is shorter; before the first place there is none
pub record IsBusyBefore (most : ℕ → ℕ) (messages : List Message) (place busy : ℕ) : Type 0 where
  pub first : place ≡ 0 → busy ≡ 0
  pub next : (k : ℕ) (m : Message) (n : ℕ) → place ≡ k + 1 → slice_get messages k ≡ Some m → 0 < n
      → busied most (ranking_at messages k m) n ≤ n → busy ≤ n
