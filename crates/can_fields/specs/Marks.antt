-- The field of each level of a frame on the bus, and whether it is a stuff bit. The levels are received one by one, as
-- defined in `can_code/specs/Front.antt`. (Bosch CAN 2.0 part B, sections 3.2.1 and 6)
use Rattle.std.specs.Prelude.{ℕ, suc, ◌-◌, true, false, if◌then◌else◌, List, [], ◌∷◌, length, map, take, unwrap_or, option_map}
use Rattle.can_frame.specs.declared.level.Level.{Level}
use Rattle.can_frame.specs.declared.level.Level.TheVariants.{Dominant, Recessive}
use Rattle.can_code.specs.declared.front.Place.{Place}
use Rattle.can_code.specs.declared.front.Place.TheVariants.{StuffBit, Bit, CrcDelimiter}
use Rattle.can_code.specs.Front.{FrontParts, first_front, hear_at, heard_level, is_stuff_error, next_place}
use Rattle.can_fields.specs.declared.field.Field.{Field}
use Rattle.can_fields.specs.declared.field.Field.TheVariants.{StartOfFrame, CheckDelimiter, AckSlot, AckDelimiter, EndOfFrame}
use Rattle.can_fields.specs.declared.mark.Mark.{Mark}
use Rattle.can_fields.specs.Fields.{field_at}

-- the mark of a level that is not a stuff bit
abbrev pub bit_of : Field → Mark
bit_of field = record { field = field; stuffed = false }

-- the mark of a stuff bit
abbrev pub stuff_bit_of : Field → Mark
stuff_bit_of field = record { field = field; stuffed = true }

-- the marks of the ten levels after the stuffed part
abbrev pub tail_marks : List Mark
tail_marks = map bit_of (
    CheckDelimiter ∷ AckSlot ∷ AckDelimiter ∷ EndOfFrame ∷ EndOfFrame ∷ EndOfFrame ∷ EndOfFrame ∷
    EndOfFrame ∷ EndOfFrame ∷ EndOfFrame ∷ [])

-- the front after these levels, as far as it takes them: before a wrong stuff bit or the end of the stuffed part
abbrev pub heard_to : FrontParts → List Level → FrontParts
heard_to f [] = f
heard_to f (x ∷ xs) = unwrap_or (option_map (λ g. heard_to g xs) (hear_at (next_place f) f x)) f

-- The marks from a level x on. The front before it is f, `more` levels follow it, and `rest` are their marks. A stuff
-- bit has the field of the level before it; after a wrong one there are no marks.
abbrev pub marks_at : Place → List Level → FrontParts → Level → ℕ → List Mark → List Mark
marks_at StuffBit u f x more rest =
    stuff_bit_of (field_at u (length f.unstuffed - 1))
    ∷ (if is_stuff_error f x then [] else rest)
marks_at Bit u f x more rest = bit_of (field_at u (length f.unstuffed)) ∷ rest
marks_at CrcDelimiter u f x more rest = take (suc more) tail_marks

-- the marks of levels after a front, in a frame whose unstuffed levels begin with u
abbrev pub marks_behind : List Level → FrontParts → List Level → List Mark
marks_behind u f [] = []
marks_behind u f (x ∷ xs) = marks_at (next_place f) u f x (length xs) (marks_behind u (heard_level f x) xs)

-- the marks of levels that begin with a start of frame; others have none
unfoldable pub marks_of : List Level → List Mark
marks_of [] = []
marks_of (Recessive ∷ xs) = []
marks_of (Dominant ∷ xs) = bit_of StartOfFrame ∷ marks_behind (heard_to first_front xs).unstuffed first_front xs
