use Rattle.std.proofs.Common.{◌≡◌, ◌++◌, ap, ◌∙◌, append_assoc, codes, refl}
use Rattle.can_frame.specs.Text.{frame_text}
use Rattle.can_trace.specs.Report.{entry_line, mark_word}
use Rattle.can_trace.proofs.ReportLines.{pushed}
use Rattle.can_trace.proofs.report.written_entry.Goals as goal

pub returns : goal.returns
unfolding entry_line
returns c =
    let entry = c.args.entry.now in
    let word = mark_word entry.sent in
    let text = frame_text entry.frame in
    let first : c.push.new.line.items ≡ codes "  " = pushed _ _ _ _ _ c.push.ensures refl c.new-line.ensures in
    let second : c.push-2.new.line.items ≡ codes "  " ++ word = pushed _ _ _ _ _ c.push-2.ensures c.mark.ensures.word first in
    let third : c.push_text.new.text.items ≡ (codes "  " ++ word) ++ text = pushed _ _ _ _ _ c.push_text.ensures.written refl second in
    c.push-3.ensures ∙ ap (λ t. t ++ codes "\n") third ∙ append_assoc (codes "  " ++ word) text (codes "\n") ∙ append_assoc (codes "  ") word (text ++ codes "\n")
