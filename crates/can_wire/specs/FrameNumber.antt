-- The levels before the data of a frame as it is transmitted. (Bosch CAN 2.0 part B, section 3.2.1)
use Rattle.std.specs.Prelude.{List, ◌∷◌, ◌++◌}
use Rattle.can_frame.specs.declared.level.Level.{Level}
use Rattle.can_frame.specs.declared.level.Level.TheVariants.{Dominant}
use Rattle.can_frame.specs.Levels.{bits_of, level_from}
use Rattle.can_frame.specs.Parts.{Parts}
use Rattle.can_frame.specs.Arbitration.{arbitration_field}
use Rattle.can_wire.specs.Wire.{reserved}

-- SOF, the arbitration field with the IDE bit, the reserved bits and the data length code
unfoldable pub header_of : Parts → List Level
header_of f = Dominant ∷ (arbitration_field f ++ (reserved f ++ bits_of 4 f.dlc))

-- its last levels, in either format: RTR, two dominant levels and the data length code
abbrev pub control_of : Parts → List Level
control_of f = level_from f.remote ∷ Dominant ∷ Dominant ∷ bits_of 4 f.dlc
