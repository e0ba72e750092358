-- Which frame of a queue is pending, and which one leaves it, by place and priority. (Bosch CAN 2.0 part B, sections 2 and 3.2.1)
use Rattle.std.specs.Prelude.{ℕ, ◌≡◌, ◌≢◌, ◌<◌, List, Some, slice_get}
use Rattle.can_frame.specs.Parts.{Parts}
use Rattle.can_frame.specs.Arbitration.{arbitration_field, Before}

-- f is in the queue; no frame of the queue has higher priority; and each frame before it has lower priority
pub record IsWaiting (queue : List Parts) (f : Parts) : Type 0 where
  pub place : ℕ
  pub stands : slice_get queue place ≡ Some f
  pub least : (n : ℕ) (g : Parts) → slice_get queue n ≡ Some g → Before (arbitration_field g) (arbitration_field f) → ⊥
  pub first : (n : ℕ) (g : Parts) → n < place → slice_get queue n ≡ Some g → Before (arbitration_field f) (arbitration_field g)

-- this place has the first frame of the queue with the arbitration field of f
pub record IsFirstOfField (queue : List Parts) (f : Parts) (place : ℕ) : Type 0 where
  pub frame : Parts
  pub stands : slice_get queue place ≡ Some frame
  pub same : arbitration_field frame ≡ arbitration_field f
  pub first : (n : ℕ) (g : Parts) → n < place → slice_get queue n ≡ Some g → arbitration_field g ≢ arbitration_field f

-- no frame of the queue has the arbitration field of f
abbrev pub NoneOfField : List Parts → Parts → Type 0
NoneOfField queue f = (n : ℕ) (g : Parts) → slice_get queue n ≡ Some g → arbitration_field g ≢ arbitration_field f
