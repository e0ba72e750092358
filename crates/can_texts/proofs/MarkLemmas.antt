-- The mark that follows a frame's text in a line: no frame's text has a byte of it but the space, so the
-- first mark of the line follows the text.
use Rattle.std.proofs.Common.{◌≡◌, ◌≢◌, ℕ, zero, suc, ◌<◌, ◌≤◌, ◌==◌, ◌⊎◌, inl, inr, Bool, true, false, cond, codes, List, [], ◌∷◌, ◌++◌, length, get_or, take, drop, refl, sym, ap, subst, ◌∙◌, arith, ne_eqb}
use Rattle.std.proofs.lemmas.Bool.{cases_lt, cases_order, false≢true}
use Rattle.std.proofs.lemmas.List.{append_cancel_left, length-append, take_at}
use Rattle.std.proofs.Math.Nat.{mod-lt}
use Rattle.std.proofs.Math.Seq.{drop-append_seam}
use Rattle.std.specs.List.{AllByRecursion}
use Rattle.hex.specs.Hex.{encode_with, lower_digits}
use Rattle.can_frame.specs.Parts.{Parts, IsFrame}
use Rattle.can_frame.specs.Text.{frame_text, hex_digits, decimal_digits, identifier_digits, letter_part, identifier_part, direction_part, dlc_part, data_part, blank_before, blank}
use Rattle.can_frame.proofs.Decimals.{decimal_one, decimal_two}
use Rattle.can_texts.specs.Checked.{mark, IsFramePart, IsMarkedLine}
use Rattle.can_stream.proofs.Elements.{AllByRecursion-append}

-- ---- no frame's text has a `=`

abbrev IsOther : ℕ → Type 0
IsOther byte = (byte == 61) ≡ false

abbrev NoEquals : List ℕ → Type 0
NoEquals bytes = AllByRecursion IsOther bytes

other_at : (xs : List ℕ) → NoEquals xs → (i : ℕ) → IsOther (get_or xs i 0)
other_at [] h i = refl
other_at (x ∷ xs) h zero = h.0
other_at (x ∷ xs) h (suc i) = other_at xs h.1 i

hex_table : NoEquals lower_digits
hex_table = (refl, (refl, (refl, (refl, (refl, (refl, (refl, (refl, (refl, (refl, (refl, (refl, (refl, (refl, (refl, (refl, tt))))))))))))))))

of_identifier : (k n : ℕ) → NoEquals (hex_digits k n)
unfolding hex_digits
of_identifier zero n = tt
of_identifier (suc k) n = (other_at lower_digits hex_table _, of_identifier k n)

of_data : (bytes : List ℕ) → NoEquals (encode_with lower_digits bytes)
unfolding encode_with
of_data [] = tt
of_data (b ∷ bytes) = (other_at lower_digits hex_table _, (other_at lower_digits hex_table _, of_data bytes))

of_decimal : (n : ℕ) → n < 16 → NoEquals (decimal_digits n)
of_decimal n small = by_size (cases_lt n 10)
  where
    by_size : (n < 10) ⊎ (10 ≤ n) → NoEquals (decimal_digits n)
    by_size (inl one) = subst NoEquals (sym (decimal_one n one)) (ne_eqb _ _ (λ e. omega arith), tt)
    by_size (inr two) =
        subst NoEquals (sym (decimal_two n two)) (ne_eqb _ _ (λ e. omega arith), (ne_eqb _ _ (λ e. let low = mod-lt n {m = 10} (omega arith) in omega arith), tt))

of_letter : (b : Bool) → NoEquals (cond b (codes "E") (codes "S") ++ blank)
of_letter true = (refl, (refl, tt))
of_letter false = (refl, (refl, tt))

of_direction : (b : Bool) → NoEquals (cond b (codes "R") (codes "D") ++ blank)
of_direction true = (refl, (refl, tt))
of_direction false = (refl, (refl, tt))

of_blank_before : (bytes : List ℕ) → NoEquals (blank_before bytes)
of_blank_before [] = tt
of_blank_before (b ∷ bytes) = (refl, tt)

NoEquals-frame_text : (f : Parts) → IsFrame f → NoEquals (frame_text f)
unfolding frame_text
NoEquals-frame_text f is =
    let dlc = AllByRecursion-append IsOther (decimal_digits f.dlc) (blank_before f.bytes) (of_decimal f.dlc is.dlc) (of_blank_before f.bytes) in
    let identifier = AllByRecursion-append IsOther (hex_digits (identifier_digits f.id.extended) f.id.raw) blank (of_identifier _ _) (refl, tt) in
    AllByRecursion-append IsOther (letter_part f) (identifier_part f ++ (direction_part f ++ (dlc_part f ++ data_part f))) (of_letter f.id.extended)
    (AllByRecursion-append IsOther (identifier_part f) (direction_part f ++ (dlc_part f ++ data_part f)) identifier
    (AllByRecursion-append IsOther (direction_part f) (dlc_part f ++ data_part f) (of_direction f.remote)
    (AllByRecursion-append IsOther (dlc_part f) (data_part f) dlc (of_data f.bytes))))

-- ---- the first mark

-- no mark begins in a front that has no `=`
unmarked : (front others : List ℕ) → NoEquals front → (place : ℕ) → place < length front → take 3 (drop place (front ++ (mark ++ others))) ≢ mark
unmarked [] others h place lt = λ e. omega arith
unmarked (x ∷ []) others h zero lt = λ e. false≢true (ap (λ (l : List ℕ). get_or l 1 0 == 61) e)
unmarked (x ∷ y ∷ front) others h zero lt = λ e. false≢true (sym h.1.0 ∙ ap (λ (l : List ℕ). get_or l 1 0 == 61) e)
unmarked (x ∷ front) others h (suc place) lt = unmarked front others h.1 place (omega arith)

pub IsFramePart-marked : (line : List ℕ) (f : Parts) (others : List ℕ) → IsMarkedLine line f others → IsFramePart line (frame_text f)
IsFramePart-marked line f others marked = record {
  rest = mark ++ others;
  line_is = marked.line_is;
  marked = inr refl;
  first = subst (λ (l : List ℕ). (place : ℕ) → place < length (frame_text f) → take 3 (drop place l) ≢ mark) (sym marked.line_is)
      (unmarked (frame_text f) others (NoEquals-frame_text f marked.is_frame));
}

-- the mark after the frame part
pub mark_behind : (line a : List ℕ) (part : IsFramePart line a) → length a < length line → take 3 (drop (length a) line) ≡ mark
mark_behind line a part more = ap (λ l. take 3 (drop (length a) l)) part.line_is ∙ ap (take 3) (drop-append_seam a part.rest) ∙ there part.marked
  where
    there : (part.rest ≡ []) ⊎ (take 3 part.rest ≡ mark) → take 3 part.rest ≡ mark
    there (inl none) = absurd (omega (arith, ap length part.line_is, length-append a part.rest, ap length none))
    there (inr is) = is

front_length : (line a : List ℕ) (part : IsFramePart line a) → length a ≤ length line
front_length line a part = omega (arith, ap length part.line_is, length-append a part.rest)

-- a line has one frame part
pub IsFramePart-only : (line a b : List ℕ) → IsFramePart line a → IsFramePart line b → a ≡ b
IsFramePart-only line a b p q = by_order (cases_order (length a) (length b))
  where
    by_order : (length a ≡ length b) ⊎ ((length a < length b) ⊎ (length b < length a)) → a ≡ b
    by_order (inl same) = sym (take_at a p.rest (length a) refl) ∙ ap (take (length a)) (sym p.line_is ∙ q.line_is) ∙ take_at b q.rest (length a) (sym same)
    by_order (inr (inl less)) = let within = front_length line b q in absurd (q.first (length a) less (mark_behind line a p (omega arith)))
    by_order (inr (inr less)) = let within = front_length line a p in absurd (p.first (length b) less (mark_behind line b q (omega arith)))

-- and is marked in one way
module _ (line : List ℕ) (f g : Parts) (xs ys : List ℕ) (p : IsMarkedLine line f xs) (q : IsMarkedLine line g ys) where
  pub marked-text : frame_text f ≡ frame_text g
  marked-text = IsFramePart-only line (frame_text f) (frame_text g) (IsFramePart-marked line f xs p) (IsFramePart-marked line g ys q)

  pub marked-others : xs ≡ ys
  marked-others =
      let same : mark ++ xs ≡ mark ++ ys = append_cancel_left (frame_text f) _ _ (sym p.line_is ∙ q.line_is ∙ ap (λ t. t ++ (mark ++ ys)) (sym marked-text)) in
      append_cancel_left mark xs ys same
