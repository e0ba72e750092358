use Rattle.can_stream.proofs.PutParts.{flush-failed}
use Rattle.can_trace.proofs.report.write_report.Goals as goal

pub returns-clause-err : goal.returns-clause-err
returns-clause-err g c =
    flush-failed c.flush.result _ _ _ _ _ (rw c.new-out.ensures at c.in_ok-put_report.ensures.puts) c.flush.ensures.err
