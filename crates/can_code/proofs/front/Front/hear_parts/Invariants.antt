use Rattle.std.proofs.Common.{◌≢◌, ◌≤◌, ◌-◌, length, take}
use Rattle.can_code.specs.declared.front.Place.TheVariants.{CrcDelimiter}
use Rattle.can_code.specs.Digits.{HearsDigits}
use Rattle.can_code.specs.Front.{next_place}
use Rattle.can_code.proofs.front.Front.hear_parts.Given as goal

-- the levels so far were heard
abbrev pub invariant-loop-taken : goal.invariant-loop-taken
invariant-loop-taken g l = record {
  within : l.taken ≤ length l.digits;
  heard : HearsDigits l.fn.self l.self (take l.taken l.digits);
  going : next_place l.self ≢ CrcDelimiter;
}

abbrev pub decreases-loop-taken : goal.decreases-loop-taken
decreases-loop-taken g l = length l.digits - l.taken
