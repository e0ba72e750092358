use Rattle.std.proofs.Common.{ℕ, ◌++◌, ◌∷◌, [], ap, ◌∙◌, codes, decimal}
use Rattle.arrayvec.specs.ArrayVec.{ArrayVec}
use Rattle.can_texts.proofs.VerdictLines.{vector_verdict_line-agrees, vector_verdict_line-differs}
use Rattle.can_texts.proofs.lines.verdict.written_verdict.Goals.{in-Agrees, in-DiffersAt}
use Rattle.can_texts.proofs.lines.verdict.written_verdict.Goals as goal

pub returns : goal.returns
returns c =
    let end = λ (l : ArrayVec ℕ). l.items ++ 10 ∷ [] in
    elim c.match-verdict.branch [
      | in-Agrees w ↦
          let text = w.push.ensures ∙ ap (λ t. t ++ codes "ok") c.new-line.ensures in
          c.push-2.ensures ∙ ap end w.line-is ∙ ap (λ t. t ++ 10 ∷ []) text ∙ vector_verdict_line-agrees c.args.verdict w.in-Agrees.is
      | in-DiffersAt w ↦
          let place = decimal w.in-DiffersAt.place in
          let text = w.push_number.ensures.text ∙ ap (λ t. t ++ place) (w.push-in-DiffersAt.ensures ∙ ap (λ t. t ++ codes "differs at ") c.new-line.ensures) in
          c.push-2.ensures ∙ ap end w.line-is ∙ ap (λ t. t ++ 10 ∷ []) text ∙ vector_verdict_line-differs c.args.verdict w.in-DiffersAt.place w.in-DiffersAt.is
    ]
