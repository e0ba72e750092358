-- The output for lines.
use Rattle.std.proofs.Common.{◌≡◌, ℕ, List, [], ◌∷◌, ◌++◌, map, refl, sym, ap, subst, ◌∙◌, append_assoc}
use Rattle.std.proofs.lemmas.List.{map_push, flat_map_more}
use Rattle.std.specs.List.{flat_map, AllByRecursion}
use Rattle.can_frame.specs.Parts.{Parts, IsFrame}
use Rattle.can_frame.specs.Text.{frame_text}
use Rattle.can_texts.specs.Coded.{Codes, coded_line}
use Rattle.can_stream.proofs.Elements.{AllByRecursion-append}

pub Codes-none : Codes [] []
Codes-none = record { frames = []; each = tt; texts = refl; coded = refl }

pub Codes-push : (lines : List (List ℕ)) (output line : List ℕ) (f : Parts) → Codes lines output → IsFrame f → frame_text f ≡ line → Codes (lines ++ line ∷ []) (output ++ coded_line f)
Codes-push lines output line f codes is_frame text = record {
  frames = codes.frames ++ f ∷ [];
  each = AllByRecursion-append IsFrame codes.frames (f ∷ []) codes.each (is_frame, tt);
  texts = map_push frame_text codes.frames f ∙ ap (λ ls. ls ++ frame_text f ∷ []) codes.texts ∙ ap (λ t. lines ++ t ∷ []) text;
  coded = ap (λ t. t ++ coded_line f) codes.coded ∙ flat_map_more coded_line [] codes.frames f;
}

-- a prefix of the output, and then the rest of it
pub Codes-split : (lines : List (List ℕ)) (output waiting taken left : List ℕ) → waiting ≡ taken ++ left → Codes lines (output ++ waiting) → Codes lines ((output ++ taken) ++ left)
Codes-split lines output waiting taken left split codes = subst (Codes lines) (ap (λ t. output ++ t) split ∙ sym (append_assoc output taken left)) codes

-- lines are the texts of one list of frames, if no two frames have the same text
module _ (one : (f g : Parts) → IsFrame f → IsFrame g → frame_text f ≡ frame_text g → f ≡ g) where
  frames-only : (fs gs : List Parts) → AllByRecursion IsFrame fs → AllByRecursion IsFrame gs → map frame_text fs ≡ map frame_text gs → fs ≡ gs
  frames-only [] [] h k e = refl
  frames-only [] (g ∷ gs) h k e = cc
  frames-only (f ∷ fs) [] h k e = cc
  frames-only (f ∷ fs) (g ∷ gs) h k e =
      let first : frame_text f ≡ frame_text g = cc in
      let others : map frame_text fs ≡ map frame_text gs = cc in
      let same : f ≡ g = one f g h.0 k.0 first in
      let rest : fs ≡ gs = frames-only fs gs h.1 k.1 others in
      cc

  pub Codes-only : (lines : List (List ℕ)) (a b : List ℕ) → Codes lines a → Codes lines b → a ≡ b
  Codes-only lines a b h k = h.coded ∙ ap (flat_map coded_line) (frames-only h.frames k.frames h.each k.each (h.texts ∙ sym k.texts)) ∙ sym k.coded
