-- Eleven recessive levels in a row show that no frame is on the bus. (Bosch CAN 2.0 part B, sections 3.2 and 8)
use Rattle.std.specs.Prelude.{ℕ}

-- A data or remote frame ends with this number of recessive levels: ACK delimiter, end of frame and intermission (1 + 7 +
-- 3). So does an error or overload frame: delimiter and intermission (8 + 3).
abbrev pub idle_row : ℕ
idle_row = 11
