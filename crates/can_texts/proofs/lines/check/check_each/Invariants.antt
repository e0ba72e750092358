use Rattle.std.proofs.Common.{◌≡◌, ◌+◌, ◌-◌, ◌^◌, ◌<◌, ◌≤◌, false, length}
use Rattle.can_texts.proofs.Answering.{Answering}
use Rattle.can_texts.proofs.CheckSteps.{Passing}
use Rattle.can_texts.proofs.lines.check.check_each.Given as goal

abbrev pub invariant-loop-number : goal.invariant-loop-number
invariant-loop-number g l =
    let source = g.R.Source in
    let sink = g.W.Sink in
    let inbox = l.lines.inbox in
    record {
      answering : Answering (Passing l.passed) (source.remaining l.fn.r) (source.remaining l.r) (sink.contents l.fn.w) (sink.contents l.w) inbox.unread l.out inbox.taken l.number;
      start_is : l.start + length inbox.unread ≡ inbox.taken;
      few : l.passed ≤ l.number;
      reader_unfailed : source.has_failed l.r ≡ false;
      reader_unended : source.has_ended l.r ≡ false;
      writer_unfailed : sink.has_failed l.w ≡ false;
      fits : inbox.taken < 2 ^ 64;
    }

abbrev pub decreases-loop-number : goal.decreases-loop-number
decreases-loop-number g l = 2 ^ 64 - l.number
