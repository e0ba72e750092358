use Rattle.std.proofs.Common.{◌≡◌, ◌≤◌, ◌∙◌, ◌+◌, ◌++◌, ◌∷◌, [], length, arith, sym, ap, subst}
use Rattle.std.specs.Prelude.{Some}
use Rattle.std.specs.List.{slice_get}
use Rattle.std.proofs.lemmas.List.{length_push}
use Rattle.can_node.specs.Ports.{waiting}
use Rattle.can_node.specs.Tournament.{frames_in, IsPlayed, IsPlayedBut}
use Rattle.can_node.proofs.SlotLemmas.{frames-push, same-push, each-push, first-push}
use Rattle.can_node.proofs.TournamentLemmas.{played-but}
use Rattle.can_node.proofs.WaitingLemmas.{behind, waiting-push}
use Rattle.can_node.proofs.queue.Queue.push.Goals as goal

pub replay-requires-clause-others : goal.replay-requires-clause-others
replay-requires-clause-others c =
    let now = c.make_slot.new.self in
    let slots = now.slots.items in
    let end : c.len-place.result ≡ length slots = omega (arith, c.len-place.ensures, now.slots.ok) in
    subst (IsPlayedBut (length now.winners.entrants.items + c.len-place.result) now.winners.entrants.items) (sym (c.deref.ensures.value ∙ c.push_reserved.ensures.items))
    (played-but now.winners.entrants.items slots (slots ++ Some c.args.frame ∷ []) c.len-place.result
    (λ n apart. same-push slots (Some c.args.frame) n (λ e. apart (omega (arith, e, end)))) now.played)

pub invariant_of-self : goal.invariant_of-self
invariant_of-self c =
    let now = c.make_slot.new.self in
    let queue = frames_in now.slots.items in
    let f = c.args.frame in
    let frames : frames_in c.push_reserved.new.self.items ≡ queue ++ f ∷ [] = ap frames_in c.push_reserved.ensures.items ∙ frames-push now.slots.items f in
    let more : length (frames_in c.push_reserved.new.self.items) ≡ length queue + 1 = ap length frames ∙ length_push queue f in
    let longer : length c.push_reserved.new.self.items ≡ length now.slots.items + 1 = ap length c.push_reserved.ensures.items ∙ length_push now.slots.items (Some f) in
    let free : length queue + 1 ≤ now.room = omega (arith, c.if-self.false, c.args.self.now.counted, c.args.self.now.fits, ap length c.make_slot.ensures.frames, c.make_slot.ensures.room) in
    record {
      are_frames = λ n g e. each-push queue f now.are_frames c.bytes.ensures.whole n g (ap (λ q. slice_get q n) (sym frames) ∙ e);
      counted = omega (arith, now.counted, more);
      fits = omega (arith, more, free);
      few = now.few;
      has_room = (omega (arith, c.push_reserved.ensures.capacity, now.has_room.0), omega (arith, c.replay.ensures.capacity, now.has_room.1));
      has_slots = (omega (arith, longer, c.replay.ensures.width, c.make_slot.ensures.slot), omega (arith, c.replay.ensures.width, now.has_slots.1));
      played = subst (IsPlayed c.replay.new.self.entrants.items) c.deref.ensures.value c.replay.ensures.played;
      goes_first = first-push now.first f c.first_with.result c.first_with.ensures ∙ ap (λ o. behind o f) now.goes_first ∙ sym (waiting-push queue f) ∙ sym (ap waiting frames);
    }

pub returns-clause-taken : goal.returns-clause-taken
returns-clause-taken c =
    ap frames_in c.push_reserved.ensures.items ∙ frames-push c.make_slot.new.self.slots.items c.args.frame ∙ ap (λ q. q ++ c.args.frame ∷ []) c.make_slot.ensures.frames
