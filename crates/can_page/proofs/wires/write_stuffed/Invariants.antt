use Rattle.std.proofs.Common.{◌≡◌, length, take, map}
use Rattle.std.specs.Int.{from_bool}
use Rattle.can_page.proofs.wires.write_stuffed.Given as goal

abbrev pub invariant-loop-place : goal.invariant-loop-place
invariant-loop-place l = record {
  front : take l.place l.stuffed ≡ map (λ m. from_bool m.stuffed) (take l.place l.marks);
  len : length l.stuffed ≡ length l.fn.stuffed;
}
