use Rattle.std.proofs.Common.{◌≡◌, ◌+◌, ◌-◌, ◌^◌, ◌<◌, false, []}
use Rattle.can_stream.specs.Outbox.{PassesOn}
use Rattle.can_stream.proofs.Reading.{Reading}
use Rattle.can_stream.proofs.lines.LineReader.next_line.Given as goal

abbrev pub invariant-loop-self : goal.invariant-loop-self
invariant-loop-self g l =
    let source = g.R.Source in
    let sink = g.W.Sink in
    record {
      reading : Reading (source.remaining l.fn.source) (source.remaining l.source) g.row.KEPT l.fn.self l.self;
      unfailed : source.has_failed l.source ≡ false;
      unended : source.has_ended l.source ≡ false;
      sink_unfailed : sink.has_failed l.sink ≡ false;
      fits : l.self.inbox.taken < 2 ^ 64;
      passes : PassesOn (sink.contents l.fn.sink) (sink.contents l.sink) l.fn.out l.out [];
    }

abbrev pub decreases-loop-self : goal.decreases-loop-self
decreases-loop-self g l = 2 ^ 63 + 1 - l.self.inbox.taken
