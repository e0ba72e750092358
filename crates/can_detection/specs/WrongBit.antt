-- One inverted level of a frame, and a receiver that reads a longer frame instead. (Bosch CAN 2.0 part B, sections
-- 3.2.1, 6 and 7.1)
use Rattle.std.specs.Prelude.{ℕ, zero, suc, ◌≡◌, ◌+◌, ◌-◌, ◌≤◌, List, [], ◌∷◌, ◌++◌, length}
use Rattle.can_frame.specs.declared.level.Level.{Level}
use Rattle.can_frame.specs.declared.level.Level.TheVariants.{Recessive}
use Rattle.can_frame.specs.Levels.{opposite}
use Rattle.can_wire.specs.Crc.{IsCrc}
use Rattle.can_wire.specs.Heard.{HeardParts, heard_head, IsStuffedPart}
use Rattle.can_wire.specs.Layout.{level_at}

-- the levels with the one at place p inverted; past the end there is none
abbrev pub inverted_at : ℕ → List Level → List Level
inverted_at p [] = []
inverted_at zero (x ∷ levels) = opposite x ∷ levels
inverted_at (suc p) (x ∷ levels) = x ∷ inverted_at p levels

-- the place of the CRC delimiter in the levels of a frame, and so the length of its stuffed part: ten levels from
-- there on
abbrev pub crc_delimiter : List Level → ℕ
crc_delimiter w = length w - 10

-- The levels begin with a complete stuffed part, with a right CRC sequence, that is two to six levels longer than n.
-- The ACK slot that follows it is recessive.
pub record EndsLate (n : ℕ) (levels : List Level) : Type 0 where
  pub h : HeardParts
  pub check : List Level
  pub s : List Level
  pub rest : List Level
  pub part : IsStuffedPart h check s
  pub agrees : IsCrc (heard_head h) check
  pub begins : s ++ rest ≡ levels
  pub least : n + 2 ≤ length s
  pub most : length s ≤ n + 6
  pub unacknowledged : level_at levels (length s + 1) ≡ Recessive
