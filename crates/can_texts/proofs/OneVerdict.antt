-- Lines of vectors have one output.
use Rattle.std.proofs.Common.{◌≡◌, ℕ, inl, inr, List, [], ◌∷◌, map, refl, sym, ap, subst, ◌∙◌}
use Rattle.std.proofs.lemmas.Bool.{cases_order}
use Rattle.std.specs.List.{flat_map}
use Rattle.can_frame.specs.declared.level.Level.{Level}
use Rattle.can_frame.specs.Parts.{Parts, IsFrame}
use Rattle.can_frame.specs.Text.{frame_text}
use Rattle.can_frame.proofs.LevelDigits.{one-digits}
use Rattle.can_wire.specs.Wire.{driven}
use Rattle.can_frame.specs.Levels.{digit_of}
use Rattle.can_texts.specs.Checked.{Checks, Compares, IsCommonFront, IsVectorVerdict, Judged, passed_in, vector_verdict_line}
use Rattle.can_texts.specs.declared.lines.vector.Verdict.{Verdict}
use Rattle.can_texts.specs.declared.lines.vector.Verdict.TheVariants.{Agrees, DiffersAt}
use Rattle.can_texts.proofs.MarkLemmas.{marked-text, marked-others}

-- there is one longest common front
IsCommonFront-only : (xs ys : List Level) (m n : ℕ) → IsCommonFront xs ys m → IsCommonFront xs ys n → m ≡ n
IsCommonFront-only xs ys m n h k = elim (cases_order m n) [
  | inl same ↦ same
  | inr (inl less) ↦ absurd (h.longest n less k.within.0 k.within.1 k.same)
  | inr (inr more) ↦ absurd (k.longest m more h.within.0 h.within.1 h.same)
]

Compares-only : (xs ys : List Level) (v w : Verdict) → Compares xs ys v → Compares xs ys w → v ≡ w
Compares-only xs ys Agrees Agrees h k = refl
Compares-only xs ys Agrees (DiffersAt n) h k = absurd (k.0 h)
Compares-only xs ys (DiffersAt m) Agrees h k = absurd (h.0 k)
Compares-only xs ys (DiffersAt m) (DiffersAt n) h k = ap DiffersAt (IsCommonFront-only xs ys m n h.1 k.1)

-- if no two frames have the same text
module _ (one : (f g : Parts) → IsFrame f → IsFrame g → frame_text f ≡ frame_text g → f ≡ g) where
  pub IsVectorVerdict-only : (line : List ℕ) (v w : Verdict) → IsVectorVerdict line v → IsVectorVerdict line w → v ≡ w
  IsVectorVerdict-only line v w h k =
      let p = h.vector.marked in
      let q = k.vector.marked in
      let frames : h.frame ≡ k.frame = one h.frame k.frame p.is_frame q.is_frame (marked-text line h.frame k.frame h.vector.digits k.vector.digits p q) in
      let digits : map digit_of h.levels ≡ map digit_of k.levels =
      sym h.vector.are_levels.digits_are ∙ marked-others line h.frame k.frame h.vector.digits k.vector.digits p q ∙ k.vector.are_levels.digits_are in
      let levels = one-digits h.levels k.levels digits in
      Compares-only h.levels (driven h.frame) v w h.compares
      (subst (λ l. Compares l (driven h.frame) w) (sym levels) (subst (λ f. Compares k.levels (driven f) w) (sym frames) k.compares))

  Judged-only : (lines : List (List ℕ)) (vs ws : List Verdict) → Judged lines vs → Judged lines ws → vs ≡ ws
  Judged-only [] [] [] h k = refl
  Judged-only [] [] (w ∷ ws) h k = absurd k
  Judged-only [] (v ∷ vs) ws h k = absurd h
  Judged-only (line ∷ lines) [] ws h k = absurd h
  Judged-only (line ∷ lines) (v ∷ vs) [] h k = absurd k
  Judged-only (line ∷ lines) (v ∷ vs) (w ∷ ws) h k = ap (λ x. x ∷ vs) (IsVectorVerdict-only line v w h.0 k.0) ∙ ap (λ l. w ∷ l) (Judged-only lines vs ws h.1 k.1)

  pub Checks-only : (lines : List (List ℕ)) (m n : ℕ) (a b : List ℕ) → Checks lines m a → Checks lines n b → (m ≡ n) × (a ≡ b)
  Checks-only lines m n a b h k =
      let same = Judged-only lines h.verdicts k.verdicts h.judged k.judged in
      (h.passed_is ∙ ap passed_in same ∙ sym k.passed_is, h.output_is ∙ ap (flat_map vector_verdict_line) same ∙ sym k.output_is)
