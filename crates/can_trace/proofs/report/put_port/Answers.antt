use Rattle.std.proofs.Common.{◌≡◌, ◌∙◌, refl}
use Rattle.std.proofs.lemmas.Result.{err_from_is_err_and}
use Rattle.can_trace.specs.Report.{port_line, port_lines, reported}
use Rattle.can_stream.proofs.PutParts.{PutsPart-last, PutsPart-more, PutsPart-none, TakesFront-longer}
use Rattle.can_trace.proofs.report.put_port.Goals as goal

pub returns-in_err-put-clause-puts : goal.returns-in_err-put-clause-puts
returns-in_err-put-clause-puts g c =
    let p = err_from_is_err_and c.from_residual.result c.from_residual.ensures.1 in
    rw p.1 (TakesFront-longer _ _ _ (port_lines c.args.number (reported (g.P.Port.port c.args.port.now))) c.in_err-put.ensures.err)

pub returns-clause-puts : goal.returns-clause-puts
returns-clause-puts g c =
    let port = reported (g.P.Port.port c.args.port.now) in
    let line : c.deref.result.now ≡ port_line c.args.number port = c.deref.ensures.0 ∙ c.written_port.ensures in
    let own = PutsPart-more _ _ _ _ _ _ _ (PutsPart-none (g.W.Sink.contents c.args.w.now) c.args.out.now (port_lines c.args.number port)) _ _ _ refl (rw line at c.in_ok-put.ensures.ok) in
    PutsPart-last _ _ _ _ _ _ _ own c.put_entries.result _ (rw c.log.ensures at c.put_entries.ensures.puts)
