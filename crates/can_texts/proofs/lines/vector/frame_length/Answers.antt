use Rattle.std.proofs.Common.{below_more, arith}
use Rattle.can_texts.proofs.VectorLemmas.{IsFramePart-found, mark_found, mark_missing, unmarked_before}
use Rattle.can_texts.proofs.lines.vector.frame_length.Goals as goal

pub returns-then-starts_with-clause-part : goal.returns-then-starts_with-clause-part
returns-then-starts_with-clause-part c =
    IsFramePart-found c.args.line.now c.loop-place.place c.loop-place.invariant (mark_found c.args.line.now c.loop-place.place _ c.starts_with.ensures.value c.if-starts_with.true)

pub loop-place-init : goal.loop-place-init
loop-place-init c place less = unmarked_before c.args.line.now c.memchr.result place c.memchr.ensures (omega (arith, c.unwrap_or-equals.ensures, c.saturating_sub-place.ensures))

pub loop-place-preserved : goal.loop-place-preserved
loop-place-preserved c = below_more _ _ c.loop-place.invariant (mark_missing c.args.line.now c.loop-place.place _ c.starts_with.ensures.value c.if-starts_with.false)
