use Rattle.std.proofs.Common.{◌≡◌, [], length, rules, arith, sym, ap}
use Rattle.std.specs.Prelude.{Some, None}
use Rattle.can_node.specs.Ports.{waiting}
use Rattle.can_node.specs.Tournament.{frames_in}
use Rattle.can_node.proofs.queue.Queue.with_room.Goals as goal

pub invariant_of-result : goal.invariant_of-result
unfolding waiting
invariant_of-result c =
    let slots : c.in_ok-with_capacity.field-0.items ≡ [] = c.in_ok-with_capacity.ensures.items in
    let winners : length c.in_ok-with_room.field-0.entrants.items ≡ 0 = ap length c.in_ok-with_room.ensures.none in
    let frames = ap (λ s. length (frames_in s)) slots in
    let no_slots = ap length slots in
    record {
      are_frames = λ n f e. absurd (let h : None ≡ Some f = rw slots at e in cc);
      counted = sym frames;
      fits = omega (arith, frames);
      few = (search rules);
      has_room = (c.in_ok-with_capacity.ensures.capacity, c.in_ok-with_room.ensures.room);
      has_slots = (omega (arith, no_slots), omega (arith, winners));
      played = λ node l w. absurd (omega (arith, l, w, winners));
      goes_first = sym (ap (λ s. waiting (frames_in s)) slots);
    }
