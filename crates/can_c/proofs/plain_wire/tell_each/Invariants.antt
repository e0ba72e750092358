use Rattle.std.specs.Prelude.{slice_get}
use Rattle.std.proofs.Common.{◌≡◌, ℕ, ◌<◌, Some, length}
use Rattle.can_frame.specs.Levels.{level_code}
use Rattle.can_bus.specs.WireSteps.{wire_seen}
use Rattle.can_c.specs.PlainInputs.{hits_of_plain}
use Rattle.can_c.proofs.plain_wire.tell_each.Given as goal

abbrev pub invariant-loop-number : goal.invariant-loop-number
invariant-loop-number l = record {
  told : (t : ℕ) → t < l.number → slice_get l.seen t ≡ Some (level_code (wire_seen (hits_of_plain l.hits) l.moment.time l.level t));
  len : length l.seen ≡ length l.fn.seen;
}
