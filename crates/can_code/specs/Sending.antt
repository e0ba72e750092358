-- The levels that the transmitter of a frame drives, without stuff bits, by place. (Bosch CAN 2.0 part B, section
-- 3.2.1)
use Rattle.std.specs.Prelude.{ℕ}
use Rattle.can_frame.specs.declared.level.Level.{Level}
use Rattle.can_frame.specs.Parts.{Parts}
use Rattle.can_wire.specs.Layout.{level_at}
pub use Rattle.can_wire.specs.Wire.{unstuffed}

-- the unstuffed level at a place; places past the end count as dominant
abbrev pub sent_level : Parts → ℕ → Level
sent_level f place = level_at (unstuffed f) place
