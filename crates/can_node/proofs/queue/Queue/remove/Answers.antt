use Rattle.std.proofs.Common.{◌≡◌, ◌≤◌, ◌∙◌, ◌+◌, length, arith, sym, ap, subst}
use Rattle.std.specs.List.{slice_get}
use Rattle.can_frame.specs.Arbitration.{arbitration_field}
use Rattle.can_node.specs.Ports.{waiting, without}
use Rattle.can_node.specs.Tournament.{IsFirstUnder, IsPlayed, IsPlayedBut, frames_in, winner_at}
use Rattle.can_node.proofs.SlotLemmas.{each-without, first-left, found-leaves, frames-fewer, none-leaves, winner_waits}
use Rattle.can_node.proofs.TournamentLemmas.{filled, played-but}
use Rattle.can_node.proofs.queue.Queue.remove.Goals as goal

pub returns-in_default-clause-frames : goal.returns-in_default-clause-frames
returns-in_default-clause-frames c =
    let now = c.args.self.now in
    none-leaves now.slots.items (length now.winners.entrants.items) now.has_slots.0 c.args.sent.now (rw (c.deref.ensures.value, c.key.ensures) at c.in_default.ensures)

pub empty-requires : goal.empty-requires
empty-requires c =
    let found = c.in-Some.ensures in
    filled c.args.self.now.slots.items c.in-Some.place found.frame (rw c.deref.ensures.value at found.stands)

pub replay-requires-clause-others : goal.replay-requires-clause-others
replay-requires-clause-others c =
    let now = c.args.self.now in
    let winners = now.winners.entrants.items in
    subst (IsPlayedBut (length winners + c.in-Some.place) winners) (sym c.deref-2.ensures.value)
    (played-but winners now.slots.items c.empty.new.slots.items c.in-Some.place c.empty.ensures.others now.played)

pub overflow_sub-self : goal.overflow_sub-self
overflow_sub-self c =
    let now = c.args.self.now in
    let found : IsFirstUnder 1 (length now.winners.entrants.items) now.slots.items (arbitration_field c.args.sent.now) c.in-Some.place = rw (c.deref.ensures.value, c.key.ensures) at c.in-Some.ensures in
    omega (arith, now.counted, frames-fewer now.slots.items c.in-Some.place found.frame found.stands)

pub invariant_of-self-2 : goal.invariant_of-self-2
invariant_of-self-2 c =
    let now = c.args.self.now in
    let slots = c.empty.new.slots.items in
    let found : IsFirstUnder 1 (length now.winners.entrants.items) now.slots.items (arbitration_field c.args.sent.now) c.in-Some.place = rw (c.deref.ensures.value, c.key.ensures) at c.in-Some.ensures in
    let left : frames_in slots ≡ without c.args.sent.now (frames_in now.slots.items) = c.empty.ensures.frames ∙ found-leaves now.slots.items (length now.winners.entrants.items) now.has_slots.0 c.args.sent.now c.in-Some.place found in
    let fewer : length (frames_in now.slots.items) ≡ length (frames_in slots) + 1 = omega (arith, frames-fewer now.slots.items c.in-Some.place found.frame found.stands, ap length c.empty.ensures.frames) in
    let fit : length slots ≤ length c.replay.new.self.entrants.items = omega (arith, c.empty.ensures.fewer, c.replay.ensures.width, now.has_slots.0) in
    let played : IsPlayed c.replay.new.self.entrants.items slots = subst (IsPlayed c.replay.new.self.entrants.items) c.deref-2.ensures.value c.replay.ensures.played in
    record {
      are_frames = λ n g e. each-without c.args.sent.now (frames_in now.slots.items) now.are_frames n g (ap (λ q. slice_get q n) (sym left) ∙ e);
      counted = omega (arith, now.counted, fewer);
      fits = omega (arith, now.fits, fewer);
      few = now.few;
      has_room = (omega (arith, c.empty.ensures.capacity, now.has_room.0), omega (arith, c.replay.ensures.capacity, now.has_room.1));
      has_slots = (fit, omega (arith, c.replay.ensures.width, now.has_slots.1));
      played = played;
      goes_first = first-left (winner_at c.replay.new.self.entrants.items slots 1) slots c.first_in-self.result (waiting (frames_in slots))
          (rw (c.first.ensures, c.deref-3.ensures.value, c.deref-4.ensures.value) at c.first_in-self.ensures)
          (winner_waits c.replay.new.self.entrants.items slots played fit);
    }

pub returns-clause-frames : goal.returns-clause-frames
returns-clause-frames c =
    let now = c.args.self.now in
    let found : IsFirstUnder 1 (length now.winners.entrants.items) now.slots.items (arbitration_field c.args.sent.now) c.in-Some.place = rw (c.deref.ensures.value, c.key.ensures) at c.in-Some.ensures in
    c.empty.ensures.frames ∙ found-leaves now.slots.items (length now.winners.entrants.items) now.has_slots.0 c.args.sent.now c.in-Some.place found
