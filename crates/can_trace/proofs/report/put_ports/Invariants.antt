use Rattle.std.proofs.Common.{◌≡◌, false}
use Rattle.can_stream.proofs.PutParts.{PutsPart}
use Rattle.can_trace.proofs.ReportLines.{lines_left}
use Rattle.can_trace.proofs.report.put_ports.Given as goal

abbrev pub invariant-loop-number : goal.invariant-loop-number
invariant-loop-number g l =
    let contents = g.W.Sink.contents in
    record {
      part : PutsPart (contents l.fn.w) (contents l.w) l.fn.out l.out (lines_left g.P.Port.port l.ports 0) (lines_left g.P.Port.port l.ports l.number);
      unfailed : g.W.Sink.has_failed l.w ≡ false;
    }
