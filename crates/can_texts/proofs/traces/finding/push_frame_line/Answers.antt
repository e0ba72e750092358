use Rattle.std.proofs.Common.{◌≡◌, ◌++◌, ap, ◌∙◌, codes, decimal}
use Rattle.can_frame.specs.Text.{frame_text}
use Rattle.can_texts.specs.Decoded.{acknowledgement, deviations, finding_line}
use Rattle.can_stream.proofs.LineParts.{six_parts}
use Rattle.can_texts.proofs.traces.finding.push_frame_line.Goals as goal

pub returns : goal.returns
unfolding finding_line
returns c =
    let heard = c.args.heard.now in
    let place = decimal c.args.place in
    let text = frame_text heard.frame in
    let acked = acknowledgement heard.acked in
    let first : c.push.new.line.items ≡ place ++ codes " " = c.push.ensures ∙ ap (λ t. t ++ codes " ") (c.push_number.ensures.text ∙ ap (λ t. t ++ place) c.requires) in
    let second : c.push_text.new.text.items ≡ (place ++ codes " ") ++ text =
    c.push_text.ensures.written ∙ ap (λ f. c.push.new.line.items ++ frame_text f) c.frame.ensures.value ∙ ap (λ t. t ++ text) first in
    let third : c.push_acknowledgement.new.line.items ≡ ((place ++ codes " ") ++ text) ++ acked =
    c.push_acknowledgement.ensures.text ∙ ap (λ a. c.push_text.new.text.items ++ acknowledgement a) c.acked.ensures ∙ ap (λ t. t ++ acked) second in
    c.push-2.ensures ∙ ap (λ t. t ++ codes "\n") (c.push_deviations.ensures.text ∙ ap (λ t. t ++ deviations heard) third)
    ∙ six_parts place (codes " ") text acked (deviations heard) (codes "\n")
