use Rattle.std.proofs.Common.{◌≡◌, ◌+◌, ◌≤◌, ◌++◌, map, take}
use Rattle.can_frame.specs.Levels.{digit_of}
use Rattle.can_texts.specs.TraceText.{levels_in}
use Rattle.can_texts.proofs.traces.gathered.put_digits.Given as goal

-- the digits of the bytes so far have been put
abbrev pub invariant-loop-byte : goal.invariant-loop-byte
invariant-loop-byte l = record {
  bound : l.end ≤ l.count + l.byte-index;
  digits : take l.end l.digits ≡ take l.count l.fn.digits ++ map digit_of (levels_in (take l.byte-index l.block));
}
