use Rattle.std.proofs.Common.{◌≡◌, ◌≤◌, ℕ, List, [], length, ap, arith}
use Rattle.std.specs.Prelude.{◌^◌}
use Rattle.can_node.proofs.queue.winners.Winners.with_room.Goals as goal

none-few : {A : Type 0} (xs : List A) (n : ℕ) → xs ≡ [] → length xs ≤ n
none-few xs n e = let none : length xs ≡ 0 = ap length e in omega (arith, none)

pub invariant_of-result : goal.invariant_of-result
invariant_of-result c = record { few = none-few c.in_ok-with_capacity.field-0.items (2 ^ 62) c.in_ok-with_capacity.ensures.items }
