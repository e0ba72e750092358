-- The model of the caller's buffer for lines.
use Rattle.std.specs.Prelude.{ℕ, nat_le, Bool, ◌&&◌, List, take}
use Rattle.can_page.specs.declared.lines.Lines.{Lines}

-- the bytes that are written
abbrev pub written_lines : Lines → List ℕ
written_lines l = take l.count l.bytes

-- the buffer is full, and more bytes came
abbrev pub is_overfull : Lines → Bool
is_overfull l = l.full && nat_le 33554432 l.count
