use Rattle.std.proofs.Common.{arith}
use Rattle.std.proofs.lemmas.Result.{err_from_is_err_and}
use Rattle.can_stream.proofs.PutParts.{PutsPart-failed, PutsPart-more}
use Rattle.can_trace.proofs.ReportLines.{ports-next}
use Rattle.can_trace.proofs.report.put_ports.Goals as goal

pub returns-in_err-put_port-clause-puts : goal.returns-in_err-put_port-clause-puts
returns-in_err-put_port-clause-puts g c =
    let p = err_from_is_err_and c.from_residual.result c.from_residual.ensures.1 in
    let split = ports-next g.P.Port.port c.args.ports.now c.loop-number.number c.index-ports-number.result (omega arith) c.index-ports-number.is in
    rw p.1 (PutsPart-failed _ _ _ _ _ _ _ c.loop-number.invariant.part _ _ split c.in_err-put_port.ensures.puts)

pub loop-number-preserved : goal.loop-number-preserved
loop-number-preserved g c =
    let split = ports-next g.P.Port.port c.args.ports.now c.loop-number.number c.index-ports-number.result (omega arith) c.index-ports-number.is in
    record {
      part = PutsPart-more _ _ _ _ _ _ _ c.loop-number.invariant.part _ _ _ split c.in_ok-put_port.ensures.puts;
      unfailed = c.in_ok-put_port.ensures.failed;
    }
