use Rattle.std.proofs.Common.{◌≡◌, ◌≤◌, ◌+◌, ◌-◌, drop, length, map}
use Rattle.can_bus.specs.Offers.{all_made, refused_at}
use Rattle.can_bus.proofs.OfferLemmas.{IsWithin}
use Rattle.can_bus.proofs.bus.Bus.make_all.Given as goal

abbrev pub invariant-loop-progress : goal.invariant-loop-progress
invariant-loop-progress g l = record {
  within : IsWithin l.offers l.progress.place l.time;
  ports : all_made (drop l.progress.place l.offers) l.time (map g.P.Port.port l.self.ports.items) ≡ all_made l.offers l.time (map g.P.Port.port l.fn.self.ports.items);
  count : l.progress.refused + refused_at (drop l.progress.place l.offers) l.time (map g.P.Port.port l.self.ports.items)
      ≡ l.fn.progress.refused + refused_at l.offers l.time (map g.P.Port.port l.fn.self.ports.items);
  size : length l.self.ports.items ≡ length l.fn.self.ports.items;
  rest : l.self.rest ≡ l.fn.self.rest;
  refused : l.progress.refused ≤ l.progress.place;
}

abbrev pub decreases-loop-progress : goal.decreases-loop-progress
decreases-loop-progress g l = length l.offers - l.progress.place
