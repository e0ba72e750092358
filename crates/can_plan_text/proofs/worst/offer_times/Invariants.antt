use Rattle.std.proofs.Common.{◌≡◌, map}
use Rattle.std.specs.List.{range_with_len}
use Rattle.can_plan_text.specs.Worst.{offer_time}
use Rattle.can_plan_text.proofs.worst.offer_times.Given as goal

abbrev pub invariant-loop-number : goal.invariant-loop-number
invariant-loop-number l = l.times.items ≡ map (offer_time l.planned.message) (range_with_len 0 l.number)
