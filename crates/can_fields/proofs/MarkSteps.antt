-- Marks that are written one by one: those that are there, and those that are left.
use Rattle.std.proofs.Common.{◌≡◌, suc, ◌-◌, true, false, List, [], ◌∷◌, ◌++◌, length, take, refl, sym, ◌∙◌, ap, append_assoc}
use Rattle.can_frame.specs.declared.level.Level.{Level}
use Rattle.can_frame.specs.declared.level.Level.TheVariants.{Dominant, Recessive}
use Rattle.can_frame.specs.Levels.{is_recessive}
use Rattle.can_code.specs.declared.front.Place.TheVariants.{StuffBit, Bit, CrcDelimiter}
use Rattle.can_code.specs.Front.{FrontParts, first_front, heard_level, is_stuff_error, next_place}
use Rattle.can_fields.specs.Fields.{field_at}
use Rattle.can_fields.specs.declared.field.Field.TheVariants.{StartOfFrame}
use Rattle.can_fields.specs.declared.mark.Mark.{Mark}
use Rattle.can_fields.specs.Marks.{bit_of, stuff_bit_of, heard_to, marks_behind, marks_of, tail_marks}
use Rattle.can_fields.proofs.MarkLemmas.{marks_behind-bit, marks_behind-stuff, marks_behind-ended}

module _ (written whole : List Mark) (u : List Level) (f : FrontParts) (x : Level) (xs : List Level) (told : written ++ marks_behind u f (x ∷ xs) ≡ whole) where
  -- one more, with these after it
  more : (y : Mark) (rest : List Mark) → marks_behind u f (x ∷ xs) ≡ y ∷ rest → (written ++ y ∷ []) ++ rest ≡ whole
  more y rest first = append_assoc written (y ∷ []) rest ∙ ap (λ t. written ++ t) (sym first) ∙ told

  pub marked_bit : next_place f ≡ Bit → (written ++ bit_of (field_at u (length f.unstuffed)) ∷ []) ++ marks_behind u (heard_level f x) xs ≡ whole
  marked_bit at = more (bit_of (field_at u (length f.unstuffed))) (marks_behind u (heard_level f x) xs) (marks_behind-bit u f x xs at)

  pub marked_stuff : next_place f ≡ StuffBit → is_stuff_error f x ≡ false
      → (written ++ stuff_bit_of (field_at u (length f.unstuffed - 1)) ∷ []) ++ marks_behind u (heard_level f x) xs ≡ whole
  marked_stuff at fine = more (stuff_bit_of (field_at u (length f.unstuffed - 1))) (marks_behind u (heard_level f x) xs) (marks_behind-stuff u f x xs at fine)

  pub marked_ended : next_place f ≡ CrcDelimiter → written ++ take (suc (length xs)) tail_marks ≡ whole
  marked_ended at = ap (λ t. written ++ t) (sym (marks_behind-ended u f x xs at)) ∙ told

-- the marks of levels by their first one
pub marks_of-nothing : (l : List Level) → length l ≡ 0 → marks_of l ≡ []
unfolding marks_of
marks_of-nothing [] e = refl
marks_of-nothing (x ∷ l) e = cc

pub marks_of-recessive : (l : List Level) (x : Level) (rest : List Level) → l ≡ x ∷ rest → is_recessive x ≡ true → marks_of l ≡ []
unfolding marks_of
marks_of-recessive l x rest e recessive = ap marks_of e ∙ by_level x recessive
  where
    by_level : (y : Level) → is_recessive y ≡ true → marks_of (y ∷ rest) ≡ []
    by_level Dominant h = cc
    by_level Recessive h = refl

pub marks_of-start : (l : List Level) (x : Level) (rest : List Level) → l ≡ x ∷ rest → is_recessive x ≡ false
    → marks_of l ≡ bit_of StartOfFrame ∷ marks_behind (heard_to first_front rest).unstuffed first_front rest
unfolding marks_of
marks_of-start l x rest e dominant = ap marks_of e ∙ by_level x dominant
  where
    by_level : (y : Level) → is_recessive y ≡ false → marks_of (y ∷ rest) ≡ bit_of StartOfFrame ∷ marks_behind (heard_to first_front rest).unstuffed first_front rest
    by_level Dominant h = refl
    by_level Recessive h = cc
