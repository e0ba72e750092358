use Rattle.std.proofs.Common.{◌≡◌, rules, false, not, length, replicate, ap, ◌∙◌}
use Rattle.std.specs.List.{count_by, range_with_len}
use Rattle.canhold_commands.specs.Judgements.{has_one}
use Rattle.canhold_commands.specs.Marks.{with_marks}
use Rattle.canhold_commands.proofs.MarkedCases.{count-map, marked-all}
use Rattle.canhold_commands.proofs.judging.cases_without.Goals as goal

pub returns : goal.returns
returns c =
    let document = c.args.document.now in
    let n = length document.cases.items in
    let is : c.deref-2.result.now ≡ with_marks document.transcripts.items (replicate n false) = search rules in
    c.unmarked.ensures ∙ ap (count_by not) (is ∙ marked-all document.transcripts.items n) ∙ count-map not (has_one document.transcripts.items) (range_with_len 0 n)
