use Rattle.std.proofs.Common.{◌≡◌, ◌∙◌, ◌+◌, arith, length, ap}
use Rattle.can_node.specs.Tournament.{frames_in}
use Rattle.can_node.proofs.SlotLemmas.{frames-last}
use Rattle.can_node.proofs.queue.empty.Goals as goal

pub returns-then-place-len-clause-frames : goal.returns-then-place-len-clause-frames
returns-then-place-len-clause-frames c =
    let last : c.args.place + 1 ≡ length c.args.slots.now.items = omega (arith, c.if-place-len.true, c.len.ensures, c.args.slots.now.ok) in
    ap frames_in c.truncate.ensures.items ∙ frames-last c.args.slots.now.items c.args.place last
