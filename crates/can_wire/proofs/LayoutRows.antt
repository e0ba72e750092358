-- Frames that the layout reads, by computation.
use Rattle.std.proofs.Common.{◌≡◌, ℕ, ◌%◌, true, false, List, [], ◌∷◌, map, refl}
use Rattle.std.specs.Prelude.{codes}
use Rattle.can_frame.specs.declared.level.Level.{Level}
use Rattle.can_frame.specs.declared.level.Level.TheVariants.{Dominant, Recessive}
use Rattle.can_frame.specs.Levels.{level_of}
use Rattle.can_wire.specs.Heard.{sent}
use Rattle.can_wire.specs.Layout.{frame_len, IsComplete, frame_of, heard_of}

-- levels from digits: 48 is the code of `0`
abbrev levels : List ℕ → List Level
levels digits = map (λ c. level_of (c % 48)) digits

-- `S 001 D 0`
abbrev empty : List Level
empty = levels (codes "0000000000010000000010001000010011")

empty_heard : heard_of empty true Recessive ≡ sent (record { id = record { raw = 1; extended = false }; remote = false; dlc = 0; bytes = [] })
unfolding heard_of frame_of
empty_heard = refl

empty_complete : IsComplete empty
unfolding frame_len
empty_complete = record { start = refl; whole = refl }

-- `S 7ff D 2 a55a`, with a recessive r0
abbrev reserved_recessive : List Level
reserved_recessive = levels (codes "01111111111100100101010010101011010010011010010000")

reserved_recessive_heard :
    heard_of reserved_recessive false Dominant
    ≡ record { frame = record { id = record { raw = 0x7ff; extended = false }; remote = false; dlc = 2; bytes = 0xa5 ∷ 0x5a ∷ [] }; srr = Recessive; r1 = Dominant; r0 = Recessive; acked = false; last = Dominant }
unfolding heard_of frame_of
reserved_recessive_heard = refl

reserved_recessive_complete : IsComplete reserved_recessive
unfolding frame_len
reserved_recessive_complete = record { start = refl; whole = refl }

-- `E 12345678 D 1 ff`, with a dominant SRR and a recessive r1
abbrev extended : List Level
extended = levels (codes "01001000110101000101011001111000010000111111111110011000110000")

extended_heard :
    heard_of extended true Recessive
    ≡ record { frame = record { id = record { raw = 0x12345678; extended = true }; remote = false; dlc = 1; bytes = 0xff ∷ [] }; srr = Dominant; r1 = Recessive; r0 = Dominant; acked = true; last = Recessive }
unfolding heard_of frame_of
extended_heard = refl

extended_complete : IsComplete extended
unfolding frame_len
extended_complete = record { start = refl; whole = refl }
