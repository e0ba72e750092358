use Rattle.std.proofs.Common.{◌≡◌, ℕ, length, slice_get, Some}
use Rattle.can_frame.specs.Levels.{bits_of}
use Rattle.can_longest.specs.declared.rows.Ahead.{Ahead}
use Rattle.can_longest.specs.ToCome.{IsAhead}
use Rattle.can_longest.proofs.rows.last_row.Given as goal

abbrev pub invariant-loop-check : goal.invariant-loop-check
invariant-loop-check l = record {
  full : length l.ahead.items ≡ l.check;
  each : (p : ℕ) (a : Ahead) → slice_get l.ahead.items p ≡ Some a → IsAhead 0 (bits_of 15 p) a;
}
