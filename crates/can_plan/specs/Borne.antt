-- For how long an error model is tolerated, wherever the hits fall. (docs/PLANNING.md, "For how long hits are borne")
use Rattle.std.specs.Prelude.{ℕ, ◌≡◌, ◌<◌, ◌≤◌, Some, List, slice_get}
use Rattle.can_bus.specs.Course.{Transmission}
use Rattle.can_plan.specs.declared.borne.Borne.{Borne}
use Rattle.can_plan.specs.declared.borne.Borne.TheVariants.{Ever, For, Never}
use Rattle.can_plan.specs.Messages.{hit_times}

-- the value of `Borne` allows this many bit times
abbrev pub Allows : Borne → ℕ → Type 0
Allows Ever long = Unit {0}
Allows (For most) long = long ≤ most
Allows Never long = ⊥

-- no hit falls from this time on
abbrev pub AreHitBefore : ℕ → List Transmission → Type 0
AreHitBefore until course = (n t : ℕ) → slice_get (hit_times course) n ≡ Some t → t < until
