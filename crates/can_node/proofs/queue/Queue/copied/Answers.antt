use Rattle.std.proofs.Common.{◌≡◌, ◌∙◌, length, rules, arith, sym, ap, subst}
use Rattle.std.specs.List.{slice_get}
use Rattle.can_node.specs.Ports.{waiting}
use Rattle.can_node.specs.Tournament.{frames_in, IsPlayed}
use Rattle.can_node.proofs.queue.Queue.copied.Goals as goal

pub invariant_of-result : goal.invariant_of-result
invariant_of-result c =
    let now = c.args.self.now in
    let copied = c.in_ok-copied_with_room in
    let same : copied.field-0.items ≡ now.slots.items = (search rules) in
    let frames : frames_in copied.field-0.items ≡ frames_in now.slots.items = ap frames_in same in
    let winners = c.in_ok-copied.ensures in
    record {
      are_frames = λ n f at. now.are_frames n f (ap (λ queue. slice_get queue n) (sym frames) ∙ at);
      counted = now.counted ∙ sym (ap length frames);
      fits = omega (arith, ap length frames, now.fits);
      few = now.few;
      has_room = (copied.ensures.room, winners.room);
      has_slots = (omega (arith, ap length same, ap length winners.same, now.has_slots.0), omega (arith, ap length winners.same, now.has_slots.1));
      played = subst (λ slots. IsPlayed c.in_ok-copied.field-0.entrants.items slots) (sym same) (subst (λ entrants. IsPlayed entrants now.slots.items) (sym winners.same) now.played);
      goes_first = now.goes_first ∙ sym (ap waiting frames);
    }
