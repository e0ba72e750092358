use Rattle.std.proofs.Common.{◌≡◌, ◌++◌, ap, ◌∙◌, codes, decimal}
use Rattle.can_texts.specs.Decoded.{code_of, finding_line}
use Rattle.can_stream.proofs.LineParts.{six_parts}
use Rattle.can_texts.proofs.traces.finding.push_fault_line.Goals as goal

pub returns : goal.returns
unfolding finding_line
returns c =
    let place = decimal c.args.place in
    let kind = code_of c.args.kind in
    let fault_place = decimal c.args.fault_place in
    let first : c.push.new.line.items ≡ place ++ codes " fault " = c.push.ensures ∙ ap (λ t. t ++ codes " fault ") (c.push_number.ensures.text ∙ ap (λ t. t ++ place) c.requires) in
    let second : c.push-2.new.line.items ≡ (place ++ codes " fault ") ++ kind = c.push-2.ensures ∙ ap (λ t. c.push.new.line.items ++ t) c.code.ensures ∙ ap (λ t. t ++ kind) first in
    let third : c.push-3.new.line.items ≡ ((place ++ codes " fault ") ++ kind) ++ codes " at " = c.push-3.ensures ∙ ap (λ t. t ++ codes " at ") second in
    c.push-4.ensures ∙ ap (λ t. t ++ codes "\n") (c.push_number-2.ensures.text ∙ ap (λ t. t ++ fault_place) third)
    ∙ six_parts place (codes " fault ") kind (codes " at ") fault_place (codes "\n")
