use Rattle.std.proofs.Common.{◌≡◌, ◌∙◌, ◌+◌, ◌*◌, length, rules, arith, sym, ap, subst}
use Rattle.std.specs.List.{filter, slice_get}
use Rattle.std.specs.Option.{is_some}
use Rattle.std.proofs.lemmas.Fn.{filter_same}
use Rattle.can_node.specs.Ports.{waiting}
use Rattle.can_node.specs.Tournament.{frames_in, IsPlayed}
use Rattle.can_node.proofs.SlotLemmas.{frames-together, length-together}
use Rattle.can_node.proofs.queue.Queue.make_slot.Goals as goal

pub restart-requires-clause-room : goal.restart-requires-clause-room
restart-requires-clause-room c =
    let slots = c.args.self.now.slots.items in
    let kept : c.retain.new.self.items ≡ filter is_some slots = filter_same _ is_some _ (λ x b f' k. search rules) _ _ c.retain.ensures.filtered in
    omega (arith, c.len-2.ensures, c.retain.new.self.ok, ap length kept, length-together slots, c.requires, c.args.self.now.has_room.1)

pub invariant_of-self-2 : goal.invariant_of-self-2
invariant_of-self-2 c =
    let now = c.args.self.now in
    let kept : c.retain.new.self.items ≡ filter is_some now.slots.items = filter_same _ is_some _ (λ x b f' k. search rules) _ _ c.retain.ensures.filtered in
    let frames : frames_in c.retain.new.self.items ≡ frames_in now.slots.items = ap frames_in kept ∙ frames-together now.slots.items in
    let few : length c.retain.new.self.items ≡ length (frames_in now.slots.items) = ap length kept ∙ length-together now.slots.items in
    let width : length c.restart.new.self.entrants.items ≡ 2 * length c.retain.new.self.items + 1 = omega (arith, c.restart.ensures.width, c.len-2.ensures, c.retain.new.self.ok) in
    record {
      are_frames = λ n f e. now.are_frames n f (ap (λ q. slice_get q n) (sym frames) ∙ e);
      counted = now.counted ∙ sym (ap length frames);
      fits = omega (arith, ap length frames, now.fits);
      few = now.few;
      has_room = (omega (arith, c.retain.ensures.capacity, now.has_room.0), omega (arith, c.restart.ensures.capacity, now.has_room.1));
      has_slots = (omega (arith, width), omega (arith, width, few, c.requires));
      played = subst (IsPlayed c.restart.new.self.entrants.items) c.deref.ensures.value c.restart.ensures.played;
      goes_first = now.goes_first ∙ sym (ap waiting frames);
    }

pub returns-clause-frames : goal.returns-clause-frames
returns-clause-frames c =
    let slots = c.args.self.now.slots.items in
    let kept : c.retain.new.self.items ≡ filter is_some slots = filter_same _ is_some _ (λ x b f' k. search rules) _ _ c.retain.ensures.filtered in
    ap frames_in kept ∙ frames-together slots
