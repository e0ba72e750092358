use Rattle.std.proofs.Common.{◌≡◌, ◌++◌, false, length, map}
use Rattle.can_frame.specs.Levels.{digit_of}
use Rattle.can_stream.specs.Lines.{line_end}
use Rattle.can_stream.proofs.PutParts.{PutsPart}
use Rattle.can_trace.proofs.report.put_levels.Given as goal

abbrev pub invariant-loop-ahead : goal.invariant-loop-ahead
invariant-loop-ahead g l =
    let contents = g.W.Sink.contents in
    record {
      part : PutsPart (contents l.fn.w) (contents l.w) l.fn.out l.out (map digit_of l.fn.levels ++ line_end) (map digit_of l.ahead ++ line_end);
      unfailed : g.W.Sink.has_failed l.w ≡ false;
    }

abbrev pub decreases-loop-ahead : goal.decreases-loop-ahead
decreases-loop-ahead g l = length l.ahead
