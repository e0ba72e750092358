use Rattle.std.proofs.Common.{◌∙◌}
use Rattle.std.proofs.lemmas.Result.{on_ok_weaker}
use Rattle.can_trace.proofs.QuietReports.{open-is-quiet, quiet-over}
use Rattle.can_trace.proofs.run.run_to_end.Goals as goal

pub returns-then-is_empty-clause-quiet : goal.returns-then-is_empty-clause-quiet
returns-then-is_empty-clause-quiet c =
    on_ok_weaker c.play.result (λ told is past. told is.is_open (quiet-over c.args.scenario.now is past) ∙ open-is-quiet c.args.scenario.now is) c.play.ensures.scheduled
