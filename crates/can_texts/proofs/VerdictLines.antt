-- The output lines for verdicts and their total.
use Rattle.std.proofs.Common.{◌≡◌, ℕ, [], ◌∷◌, ◌++◌, codes, decimal, sym, ap, ◌∙◌, append_assoc}
use Rattle.can_texts.specs.declared.lines.vector.Verdict.{Verdict}
use Rattle.can_texts.specs.declared.lines.vector.Verdict.TheVariants.{Agrees, DiffersAt}
use Rattle.can_texts.specs.Checked.{vector_verdict_line}

pub vector_verdict_line-agrees : (verdict : Verdict) → verdict ≡ Agrees → codes "ok" ++ 10 ∷ [] ≡ vector_verdict_line verdict
unfolding vector_verdict_line
vector_verdict_line-agrees verdict is = sym (ap vector_verdict_line is)

pub vector_verdict_line-differs : (verdict : Verdict) (place : ℕ) → verdict ≡ DiffersAt place → (codes "differs at " ++ decimal place) ++ 10 ∷ [] ≡ vector_verdict_line verdict
unfolding vector_verdict_line
vector_verdict_line-differs verdict place is = append_assoc (codes "differs at ") (decimal place) (10 ∷ []) ∙ sym (ap vector_verdict_line is)
