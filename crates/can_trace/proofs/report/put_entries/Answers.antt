use Rattle.std.proofs.Common.{◌≡◌, ◌∙◌, arith}
use Rattle.std.proofs.lemmas.Result.{err_from_is_err_and}
use Rattle.can_trace.specs.Report.{entry_line}
use Rattle.can_stream.proofs.PutParts.{PutsPart-failed, PutsPart-more, TakesFront-longer}
use Rattle.can_trace.proofs.ReportLines.{entries-next}
use Rattle.can_trace.proofs.report.put_entries.Goals as goal

pub returns-in_err-put-clause-puts : goal.returns-in_err-put-clause-puts
returns-in_err-put-clause-puts g c =
    let p = err_from_is_err_and c.from_residual.result c.from_residual.ensures.1 in
    let split = entries-next c.args.entries.now c.loop-entry.entry-index c.entry-item.result (omega arith) c.entry-item.is in
    rw p.1 (PutsPart-failed _ _ _ _ _ _ _ c.loop-entry.invariant.part _ _ split (TakesFront-longer _ _ _ (entry_line c.entry-item.result) c.in_err-put.ensures.err))

pub loop-entry-preserved : goal.loop-entry-preserved
loop-entry-preserved g c =
    let split = entries-next c.args.entries.now c.loop-entry.entry-index c.entry-item.result (omega arith) c.entry-item.is in
    let line : c.deref.result.now ≡ entry_line c.entry-item.result = c.deref.ensures.0 ∙ c.written_entry.ensures in
    record {
      part = PutsPart-more _ _ _ _ _ _ _ c.loop-entry.invariant.part _ _ _ split (rw line at c.in_ok-put.ensures.ok);
      unfailed = c.in_ok-put.ensures.failed;
    }
