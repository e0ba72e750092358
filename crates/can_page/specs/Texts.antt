-- The model of bytes and levels that are read from the front.
use Rattle.std.specs.Prelude.{ℕ, Bool, List}
use Rattle.can_page.specs.Codes.{trace_text}
use Rattle.can_page.specs.declared.levels.Levels.{Levels}
use Rattle.can_page.specs.declared.text.Text.{Text}

-- the bytes that are not read yet
abbrev pub unread : Text → List ℕ
unread t = t.rest.now

-- a read came when no bytes were left
abbrev pub has_ended : Text → Bool
has_ended t = t.ended

-- the digits of the levels that are not read yet
abbrev pub unread_digits : Levels → List ℕ
unread_digits l = trace_text (unread l.codes)

-- a read came when no levels were left
abbrev pub levels_ended : Levels → Bool
levels_ended l = has_ended l.codes
