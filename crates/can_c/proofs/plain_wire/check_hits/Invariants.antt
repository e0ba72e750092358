use Rattle.std.proofs.Common.{◌≡◌, None, take}
use Rattle.can_c.specs.PlainInputs.{first_reason}
use Rattle.can_c.specs.PlainWires.{struck_refusal}
use Rattle.can_c.proofs.plain_wire.check_hits.Given as goal

abbrev pub invariant-loop-place : goal.invariant-loop-place
invariant-loop-place l = first_reason (struck_refusal l.count) (take l.place l.hits) ≡ None
