use Rattle.std.proofs.Common.{◌≡◌, ◌++◌, ap, ◌∙◌, codes, decimal}
use Rattle.can_texts.specs.Checked.{total_line}
use Rattle.can_stream.proofs.LineParts.{five_parts}
use Rattle.can_texts.proofs.lines.verdict.written_total.Goals as goal

pub returns : goal.returns
unfolding total_line
returns c =
    let passed = decimal c.args.passed in
    let count = decimal c.args.count in
    let first : c.push_number.new.line.items ≡ codes "passed " ++ passed = c.push_number.ensures.text ∙ ap (λ t. t ++ passed) (c.push.ensures ∙ ap (λ t. t ++ codes "passed ") c.new-line.ensures) in
    let second : c.push_number-2.new.line.items ≡ ((codes "passed " ++ passed) ++ codes " of ") ++ count =
    c.push_number-2.ensures.text ∙ ap (λ t. t ++ count) (c.push-2.ensures ∙ ap (λ t. t ++ codes " of ") first) in
    c.push-3.ensures ∙ ap (λ t. t ++ codes "\n") second ∙ five_parts (codes "passed ") passed (codes " of ") count (codes "\n")
