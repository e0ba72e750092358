use Rattle.std.proofs.Common.{◌≡◌, ◌+◌, ◌-◌, ◌≤◌, drop, length}
use Rattle.can_bus.specs.Passing.{due_before}
use Rattle.can_bus.proofs.bus.passing.offers_to.Given as goal

abbrev pub invariant-loop-next : goal.invariant-loop-next
invariant-loop-next l = record {
  from : l.place ≤ l.next;
  few : l.count ≤ l.next - l.place;
  left : l.count + due_before l.node l.end (drop l.next l.offers) ≡ due_before l.node l.end (drop l.place l.offers);
}

abbrev pub decreases-loop-next : goal.decreases-loop-next
decreases-loop-next l = length l.offers - l.next
