use Rattle.std.proofs.Common.{◌≡◌, length, take, map}
use Rattle.can_page.specs.Plain.{plain_time}
use Rattle.can_page.proofs.scenarios.write_times.Given as goal

abbrev pub invariant-loop-place : goal.invariant-loop-place
invariant-loop-place l = record {
  front : take l.place l.times ≡ map plain_time (take l.place l.told);
  len : length l.times ≡ length l.fn.times;
}
