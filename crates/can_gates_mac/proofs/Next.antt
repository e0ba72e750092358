-- From one bit time to the next.
use Rattle.std.proofs.Common.{ℕ, Bool, Option, ap}
use Rattle.can_terms.specs.declared.event.Event.{Event}
use Rattle.can_mac.specs.State.{MacState}
use Rattle.can_gates_mac.specs.declared.registers.Controller.{Controller}
use Rattle.can_gates_mac.specs.Numbers.{Numbers}
use Rattle.can_gates_mac.specs.Shown.{shown}
use Rattle.can_gates_mac.specs.Stepping.{Holds, IsStep}

pub next_holds : (v : ℕ → Bool) (k : Controller) (after : MacState × Option Event) → IsStep v k after → Holds v k after.0
unfolding shown
next_holds v k after h = record {
  phase = ap (λ (n : Numbers). n.phase) h.state;
  place = ap (λ (n : Numbers). n.place) h.state;
  last = ap (λ (n : Numbers). n.last) h.state;
  unacknowledged = ap (λ (n : Numbers). n.unacknowledged) h.state;
  first = ap (λ (n : Numbers). n.first) h.state;
  sender = ap (λ (n : Numbers). n.sender) h.state;
  pending = ap (λ (n : Numbers). n.pending) h.state;
  used = ap (λ (n : Numbers). n.used) h.state;
  counters = h.counters;
}
