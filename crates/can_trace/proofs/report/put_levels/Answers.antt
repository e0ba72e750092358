use Rattle.std.proofs.Common.{◌≡◌, [], ◌++◌, length, map, rules}
use Rattle.std.proofs.lemmas.List.{nil_from_length}
use Rattle.std.proofs.lemmas.Result.{err_from_is_err_and}
use Rattle.can_frame.specs.Levels.{digit_of}
use Rattle.can_stream.specs.Lines.{line_end}
use Rattle.can_trace.specs.Report.{levels_line}
use Rattle.can_stream.proofs.PutParts.{PutsPart-failed, PutsPart-last, PutsPart-more, Puts-at_once}
use Rattle.can_trace.proofs.ReportLines.{digits-split}
use Rattle.can_trace.proofs.report.put_levels.Goals as goal

pub returns-in_err-put_digits-clause-puts : goal.returns-in_err-put_digits-clause-puts
unfolding levels_line
returns-in_err-put_digits-clause-puts g c =
    let p = err_from_is_err_and c.from_residual.result c.from_residual.ensures.1 in
    let rest = c.split_at.result.1.now in
    let split = digits-split c.loop-ahead.ahead.now c.split_at.result.0.now rest c.split_at.ensures.by_index.0 in
    rw p.1 (PutsPart-failed _ _ _ _ _ _ _ c.loop-ahead.invariant.part _ (map digit_of rest ++ line_end) split c.in_err-put_digits.ensures.puts)

pub loop-ahead-preserved : goal.loop-ahead-preserved
loop-ahead-preserved g c =
    let split = digits-split c.loop-ahead.ahead.now c.split_at.result.0.now c.split_at.result.1.now c.split_at.ensures.by_index.0 in
    record {
      part = PutsPart-more _ _ _ _ _ _ _ c.loop-ahead.invariant.part _ _ _ split c.in_ok-put_digits.ensures.puts;
      unfailed = c.in_ok-put_digits.ensures.failed;
    }

pub returns-clause-puts : goal.returns-clause-puts
unfolding levels_line
returns-clause-puts g c =
    let empty : length c.loop-ahead.ahead.now ≡ 0 = search rules in
    let none : c.loop-ahead.ahead.now ≡ [] = nil_from_length _ empty in
    PutsPart-last _ _ _ _ _ _ _ (rw none at c.loop-ahead.invariant.part) c.put.result _ (Puts-at_once c.put.result _ _ _ _ _ c.put.ensures.ok c.put.ensures.err)
