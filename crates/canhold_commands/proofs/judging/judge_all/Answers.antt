use Rattle.std.proofs.Common.{[], arith, rules}
use Rattle.canhold_commands.specs.Judgements.{lines_with, no_cases, AddVerdicts}
use Rattle.canhold_commands.proofs.CountedVerdicts.{each-counted}
use Rattle.canhold_commands.proofs.judging.judge_all.Goals as goal

pub returns : goal.returns
returns c =
    let document = c.args.document.now in
    let lines = c.push_verdicts.new.out.items in
    let tally = c.in_ok-tally.tally in
    let verdicts : AddVerdicts document.cases.items document.transcripts.items (lines_with [] no_cases) (lines_with lines tally) = search rules in
    let each = each-counted document.cases.items document.transcripts.items (lines_with [] no_cases) (lines_with lines tally) verdicts in
    record {
      lines = lines;
      verdicts = verdicts;
      each = omega (arith, each);
      all = search rules;
    }
