use Rattle.std.proofs.Common.{◌≡◌, length, take, map}
use Rattle.can_page.specs.Codes.{field_code}
use Rattle.can_page.proofs.wires.write_fields.Given as goal

abbrev pub invariant-loop-place : goal.invariant-loop-place
invariant-loop-place l = record {
  front : take l.place l.fields ≡ map (λ m. field_code m.field) (take l.place l.marks);
  len : length l.fields ≡ length l.fn.fields;
}
