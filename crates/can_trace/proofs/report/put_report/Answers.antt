use Rattle.std.proofs.Common.{◌≡◌, ◌∙◌, length, map, refl}
use Rattle.std.proofs.lemmas.Result.{err_from_is_err_and}
use Rattle.can_trace.specs.Report.{bits_line, report_text, reported}
use Rattle.can_stream.proofs.PutParts.{PutsPart-failed, PutsPart-last, PutsPart-more, PutsPart-none, TakesFront-longer}
use Rattle.can_trace.proofs.report.put_report.Goals as goal

pub returns-in_err-put-clause-puts : goal.returns-in_err-put-clause-puts
returns-in_err-put-clause-puts g c =
    let p = err_from_is_err_and c.from_residual.result c.from_residual.ensures.1 in
    rw p.1 (TakesFront-longer _ _ _ (report_text c.args.levels.now (map reported (map g.P.Port.port c.args.ports.now))) c.in_err-put.ensures.err)

pub returns-in_err-put_levels-clause-puts : goal.returns-in_err-put_levels-clause-puts
unfolding report_text
returns-in_err-put_levels-clause-puts g c =
    let p = err_from_is_err_and c.from_residual-in_err-put_levels.result c.from_residual-in_err-put_levels.ensures.1 in
    let text = report_text c.args.levels.now (map reported (map g.P.Port.port c.args.ports.now)) in
    let line : c.deref.result.now ≡ bits_line (length c.args.levels.now) = c.deref.ensures.0 ∙ c.written_bits.ensures in
    let bits = PutsPart-more _ _ _ _ _ _ _ (PutsPart-none (g.W.Sink.contents c.args.w.now) c.args.out.now text) _ _ _ refl (rw line at c.in_ok-put.ensures.ok) in
    rw p.1 (PutsPart-failed _ _ _ _ _ _ _ bits _ _ refl c.in_err-put_levels.ensures.puts)

pub returns-clause-puts : goal.returns-clause-puts
unfolding report_text
returns-clause-puts g c =
    let text = report_text c.args.levels.now (map reported (map g.P.Port.port c.args.ports.now)) in
    let line : c.deref.result.now ≡ bits_line (length c.args.levels.now) = c.deref.ensures.0 ∙ c.written_bits.ensures in
    let bits = PutsPart-more _ _ _ _ _ _ _ (PutsPart-none (g.W.Sink.contents c.args.w.now) c.args.out.now text) _ _ _ refl (rw line at c.in_ok-put.ensures.ok) in
    let levels = PutsPart-more _ _ _ _ _ _ _ bits _ _ _ refl c.in_ok-put_levels.ensures.puts in
    PutsPart-last _ _ _ _ _ _ _ levels c.put_ports.result _ c.put_ports.ensures.puts
