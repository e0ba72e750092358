use Rattle.std.proofs.Common.{sym, append-nil}
use Rattle.can_gates.proofs.Pieces.{one_more}
use Rattle.can_gates.proofs.files.words.push_numbered.Goals as goal

pub loop-place-init : goal.loop-place-init
loop-place-init c = sym (append-nil c.args.out.now.items)

pub loop-place-preserved : goal.loop-place-preserved
loop-place-preserved c = one_more c.args.word.now c.loop-place.place _ _ _ c.loop-place.invariant c.in_ok-push.ensures.items
