-- The wired level. (Bosch CAN 2.0 part B, section 2)
use Rattle.std.specs.Prelude.{List, [], ◌∷◌}
use Rattle.can_frame.specs.declared.level.Level.{Level}
use Rattle.can_frame.specs.declared.level.Level.TheVariants.{Dominant, Recessive}

-- a dominant level overrides a recessive one
abbrev pub over : Level → Level → Level
over Dominant x = Dominant
over Recessive x = x

-- the level of a bus line on which these levels are driven: dominant if one of them is, otherwise recessive
unfoldable pub wired : List Level → Level
wired [] = Recessive
wired (x ∷ levels) = over x (wired levels)
