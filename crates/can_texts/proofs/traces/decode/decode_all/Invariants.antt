use Rattle.std.proofs.Common.{◌≡◌, ◌-◌, ◌^◌, ◌<◌, false, []}
use Rattle.can_texts.proofs.DecodeEndings.{Decoding}
use Rattle.can_texts.proofs.traces.decode.decode_all.Given as goal

abbrev pub invariant-loop-inbox : goal.invariant-loop-inbox
invariant-loop-inbox g l =
    let source = g.R.Source in
    let sink = g.W.Sink in
    record {
      decoding : Decoding source.remaining l.fn.r sink.contents l.fn.w l.r l.w l.trace l.out l.inbox.taken;
      used : l.inbox.unread ≡ [];
      reader_unfailed : source.has_failed l.r ≡ false;
      reader_unended : source.has_ended l.r ≡ false;
      writer_unfailed : sink.has_failed l.w ≡ false;
      fits : l.inbox.taken < 2 ^ 64;
    }

abbrev pub decreases-loop-inbox : goal.decreases-loop-inbox
decreases-loop-inbox g l = 2 ^ 64 - l.inbox.taken
