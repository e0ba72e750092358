use Rattle.std.proofs.Common.{◌++◌, ap, ◌∙◌, append_assoc, codes, decimal}
use Rattle.can_trace.specs.Report.{bits_line}
use Rattle.can_trace.proofs.report.written_bits.Goals as goal

pub returns : goal.returns
unfolding bits_line
returns c =
    let bits = decimal c.args.bits in
    let text = c.push_named.ensures.text ∙ ap (λ t. t ++ (codes "bits " ++ bits)) c.new-line.ensures in
    c.push.ensures ∙ ap (λ t. t ++ codes "\n") text ∙ append_assoc (codes "bits ") bits (codes "\n")
