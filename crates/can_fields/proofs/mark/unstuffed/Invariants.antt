use Rattle.std.proofs.Common.{◌≡◌, drop}
use Rattle.can_code.specs.Front.{first_front}
use Rattle.can_fields.specs.Marks.{heard_to}
use Rattle.can_fields.proofs.mark.unstuffed.Given as goal

-- the levels so far are received, and the rest will be as far as it goes
abbrev pub invariant-loop-level : goal.invariant-loop-level
invariant-loop-level l = record {
  bits : l.bits ≡ l.front.unstuffed;
  rest : heard_to l.front (drop l.level-index l.rest) ≡ heard_to first_front l.rest;
}
