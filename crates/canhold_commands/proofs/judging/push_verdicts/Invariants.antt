use Rattle.std.proofs.Common.{◌≤◌, drop}
use Rattle.canhold_commands.specs.Judgements.{Lines, lines_with, no_cases, AddVerdicts}
use Rattle.canhold_commands.proofs.judging.push_verdicts.Given as goal

-- what is written, followed by the lines of the other transcripts, is what those of all give; at most one verdict is
-- counted for each transcript before
abbrev pub invariant-loop-told : goal.invariant-loop-told
invariant-loop-told l =
    ((after : Lines) → AddVerdicts l.cases (drop l.told-index l.transcripts) (lines_with l.out.items l.tally) after → AddVerdicts l.cases l.transcripts (lines_with l.fn.out.items no_cases) after)
    × (l.tally.passed ≤ l.told-index) × (l.tally.failed ≤ l.told-index)
