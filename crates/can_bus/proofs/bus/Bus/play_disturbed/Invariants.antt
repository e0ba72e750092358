use Rattle.std.proofs.Common.{◌≡◌, ◌-◌, ◌≤◌, ◌<◌, ℕ, get_or, length}
use Rattle.can_frame.specs.declared.level.Level.{Level}
use Rattle.can_bus.specs.Offers.{call_after, call_level, call_refused}
use Rattle.can_bus.specs.State.{bus_state}
use Rattle.can_bus.specs.Walks.{IsCall, IsReached}
use Rattle.can_bus.proofs.bus.Bus.play_disturbed.Given as goal

abbrev pub invariant-loop-place : goal.invariant-loop-place
invariant-loop-place g l = record {
  state : record { bus = bus_state g.P.Port.port l.self; time = l.call.time; latest = l.call.latest } ≡ call_after l.offers l.hits l.place (bus_state g.P.Port.port l.fn.self);
  levels : (t : ℕ) (d : Level) → t < l.place → get_or l.rec t d ≡ call_level l.offers l.hits t (bus_state g.P.Port.port l.fn.self);
  count : l.progress.refused ≡ call_refused l.offers l.hits l.place (bus_state g.P.Port.port l.fn.self);
  reached : IsReached l.offers l.progress.place l.place;
  refused : l.progress.refused ≤ l.progress.place;
  size : length l.self.ports.items ≡ length l.fn.self.ports.items;
  call : IsCall l.hits l.call;
  time : l.call.time ≡ l.place;
  long : length l.rec ≡ length l.fn.rec;
  within : l.place ≤ length l.fn.rec;
}

abbrev pub decreases-loop-place : goal.decreases-loop-place
decreases-loop-place g l = length l.fn.rec - l.place
