-- The numbers of levels, fields and flags on the page.
use Rattle.std.specs.Prelude.{ℕ, ◌==◌, Bool, if◌then◌else◌, List, map}
use Rattle.std.specs.Int.{from_bool}
use Rattle.can_frame.specs.declared.level.Level.{Level}
use Rattle.can_frame.specs.Levels.{level_code}
use Rattle.can_fields.specs.declared.field.Field.{Field}
use Rattle.can_fields.specs.declared.field.Field.TheVariants.{StartOfFrame, Identifier, RemoteOrSubstitute, RemoteRequest, SubstituteRequest, IdentifierExtension, ReservedOne, ReservedZero, DataLength, Data, CheckSequence, CheckDelimiter, AckSlot, AckDelimiter, EndOfFrame}
use Rattle.can_fields.specs.declared.mark.Mark.{Mark}
use Rattle.can_plan_text.specs.declared.answer.Form.{Form}
use Rattle.can_plan_text.specs.declared.answer.Form.TheVariants.{Brief, Detailed}

-- the numbers of levels
abbrev pub level_codes : List Level → List ℕ
level_codes levels = map level_code levels

-- the byte of trace text for the number of a level, `0` or `1`; for any other number a byte that it may not contain,
-- `?`
abbrev pub trace_byte : ℕ → ℕ
trace_byte code = if code == 0 then 48 else if code == 1 then 49 else 63

-- the trace text of levels that are given as numbers
abbrev pub trace_text : List ℕ → List ℕ
trace_text codes = map trace_byte codes

-- the number of a field
abbrev pub field_code : Field → ℕ
field_code StartOfFrame = 0
field_code Identifier = 1
field_code RemoteOrSubstitute = 2
field_code RemoteRequest = 3
field_code SubstituteRequest = 4
field_code IdentifierExtension = 5
field_code ReservedOne = 6
field_code ReservedZero = 7
field_code DataLength = 8
field_code Data = 9
field_code CheckSequence = 10
field_code CheckDelimiter = 11
field_code AckSlot = 12
field_code AckDelimiter = 13
field_code EndOfFrame = 14

-- the numbers of the fields of levels
abbrev pub field_codes : List Mark → List ℕ
field_codes marks = map (λ m. field_code m.field) marks

-- which levels are stuff bits
abbrev pub stuff_codes : List Mark → List ℕ
stuff_codes marks = map (λ m. from_bool m.stuffed) marks

-- the form of the output for a network, with details or without
abbrev pub form_of : Bool → Form
form_of details = if details then Detailed else Brief
