use Rattle.std.proofs.Common.{◌≡◌, ◌-◌, ◌/◌, ◌^◌, ◌<◌, ◌≤◌}
use Rattle.can_frame.specs.Levels.{bits_of}
use Rattle.can_wire.proofs.Register.{register}
use Rattle.can_wire.proofs.crc_run.shift_in_bits.Given as goal

-- the register after the highest of the levels
abbrev pub invariant-loop-left : goal.invariant-loop-left
invariant-loop-left l = record {
  within : l.left ≤ l.count;
  range : l.shifted < 2 ^ 15;
  so_far : bits_of 15 l.shifted ≡ register (bits_of 15 l.register) (bits_of (l.count - l.left) (l.number / 2 ^ l.left));
}

abbrev pub decreases-loop-left : goal.decreases-loop-left
decreases-loop-left l = l.left
