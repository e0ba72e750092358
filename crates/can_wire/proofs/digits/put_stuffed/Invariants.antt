use Rattle.std.proofs.Common.{◌-◌, ◌*◌, ◌/◌, ◌^◌, ◌≤◌}
use Rattle.can_frame.specs.Levels.{bits_of}
use Rattle.can_wire.specs.StuffSteps.{HasDigits}
use Rattle.can_wire.proofs.digits.put_stuffed.Given as goal

-- the digits of the bytes above those that are left have been put
abbrev pub invariant-loop-left : goal.invariant-loop-left
invariant-loop-left l = record {
  within : l.left ≤ l.octets;
  has : HasDigits l.digits l.now (bits_of (8 * (l.octets - l.left)) (l.number / 2 ^ (8 * l.left)));
}

abbrev pub decreases-loop-left : goal.decreases-loop-left
decreases-loop-left l = l.left
