use Rattle.std.proofs.Common.{◌≡◌, ◌-◌, ◌^◌, ◌<◌, false}
use Rattle.can_texts.specs.Coded.{Codes}
use Rattle.can_texts.proofs.Answering.{Answering}
use Rattle.can_texts.proofs.lines.encode.answer_lines.Given as goal

abbrev pub invariant-loop-number : goal.invariant-loop-number
invariant-loop-number g l =
    let source = g.R.Source in
    let sink = g.W.Sink in
    let inbox = l.lines.inbox in
    record {
      answering : Answering Codes (source.remaining l.fn.r) (source.remaining l.r) (sink.contents l.fn.w) (sink.contents l.w) inbox.unread l.out inbox.taken l.number;
      reader_unfailed : source.has_failed l.r ≡ false;
      reader_unended : source.has_ended l.r ≡ false;
      writer_unfailed : sink.has_failed l.w ≡ false;
      fits : inbox.taken < 2 ^ 64;
    }

abbrev pub decreases-loop-number : goal.decreases-loop-number
decreases-loop-number g l = 2 ^ 64 - l.number
