-- A line reader, as contracts see it, and the effect of reading a line.
use Rattle.std.specs.Prelude.{◌≡◌, ℕ, ◌+◌, Bool, false, List, length, take, Option, Result, Ok, Err}
use Rattle.std.specs.Io.KnownBytes.{Consumes}
use Rattle.can_stream.specs.Inbox.{Received}
use Rattle.can_stream.specs.Lines.{SplitsLine}
use Rattle.can_stream.specs.declared.lines.LineReader.{LineReader}
use Rattle.can_stream.specs.declared.fault.TraceFault.{TraceFault}

-- the first bytes of the line that was read last
abbrev pub line_of : {kept : ℕ} → LineReader kept → List ℕ
line_of reader = reader.line.items

-- what was read and not yet used
abbrev pub inbox_of : {kept : ℕ} → LineReader kept → Received
inbox_of reader = reader.inbox

-- whether a line's end was found
abbrev pub is_found : Result Bool TraceFault → Bool
is_found (Ok found) = found
is_found (Err e) = false

-- An input was read. It and the bytes that were unread are split into a line and the bytes that are unread now. The
-- first bytes of the line are kept.
pub record ReadsLine (found : Bool) (before after : Option (List ℕ)) (kept : ℕ) (old new : LineReader kept) : Type 0 where
  pub input : List ℕ
  pub line : List ℕ
  pub consumes : Consumes before after input
  pub taken : (inbox_of new).taken ≡ (inbox_of old).taken + length input
  pub splits : SplitsLine found (inbox_of old).unread input line (inbox_of new).unread
  pub keeps : line_of new ≡ take kept line
