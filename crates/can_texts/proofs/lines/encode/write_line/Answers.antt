use Rattle.std.proofs.Common.{◌++◌, ◌∷◌, [], ◌∙◌, ap, arith}
use Rattle.can_texts.specs.Coded.{coded_line}
use Rattle.can_texts.proofs.DigitRanges.{slice_range-set}
use Rattle.can_texts.proofs.lines.encode.write_line.Goals as goal

pub returns-clause-line : goal.returns-clause-line
unfolding coded_line
returns-clause-line c =
    let d = c.driven_digits-start in
    slice_range-set d.new.digits d.result.0 d.result.1 10 d.ensures.order (omega (arith, d.array_long, d.ensures.bound)) ∙ ap (λ t. t ++ 10 ∷ []) d.ensures.digits
