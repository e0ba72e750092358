use Rattle.std.proofs.Common.{◌≡◌, ◌+◌, ◌-◌, ◌<◌, ◌≤◌, length, map}
use Rattle.can_bus.specs.Passing.{made_behind, refused_behind}
use Rattle.can_bus.specs.Walks.{IsReached}
use Rattle.can_bus.proofs.bus.Bus.make_behind.Given as goal

abbrev pub invariant-loop-time : goal.invariant-loop-time
invariant-loop-time g l = record {
  begun : l.begun ≤ l.made;
  early : l.made < l.end;
  reached : IsReached l.offers l.progress.place (l.made + 1);
  ports : map g.P.Port.port l.self.ports.items ≡ made_behind l.offers l.begun (l.made - l.begun) (map g.P.Port.port l.fn.self.ports.items);
  count : l.progress.refused ≡ l.fn.progress.refused + refused_behind l.offers l.begun (l.made - l.begun) (map g.P.Port.port l.fn.self.ports.items);
  refused : l.progress.refused ≤ l.progress.place;
  size : length l.self.ports.items ≡ length l.fn.self.ports.items;
  rest : l.self.rest ≡ l.fn.self.rest;
}

abbrev pub decreases-loop-time : goal.decreases-loop-time
decreases-loop-time g l = length l.offers - l.progress.place
