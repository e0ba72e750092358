use Rattle.std.proofs.Common.{◌≡◌, false, drop}
use Rattle.std.specs.List.{flat_map}
use Rattle.can_trace.specs.Report.{entry_line}
use Rattle.can_stream.proofs.PutParts.{PutsPart}
use Rattle.can_trace.proofs.report.put_entries.Given as goal

abbrev pub invariant-loop-entry : goal.invariant-loop-entry
invariant-loop-entry g l =
    let contents = g.W.Sink.contents in
    record {
      part : PutsPart (contents l.fn.w) (contents l.w) l.fn.out l.out (flat_map entry_line l.entries) (flat_map entry_line (drop l.entry-index l.entries));
      unfailed : g.W.Sink.has_failed l.w ≡ false;
    }
