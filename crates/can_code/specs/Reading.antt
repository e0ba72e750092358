-- How much of a frame has been read.
use Rattle.std.specs.Prelude.{ℕ, ◌≡◌, ◌+◌, ◌*◌, ◌<◌, ◌≤◌, Option, Some, None, List, length, drop}
use Rattle.can_frame.specs.declared.level.Level.{Level}
use Rattle.can_frame.specs.Parts.{byte_count}
use Rattle.can_wire.specs.Layout.{extended_of, remote_of, dlc_of, data_place, bytes_from, frame_len}

-- the levels include all before the data
abbrev pub HasControl : List Level → Type 0
HasControl u = data_place (extended_of u) ≤ length u

-- the levels also include all of the data
abbrev pub HasData : List Level → Type 0
HasData u = data_place (extended_of u) + 8 * byte_count (remote_of u) (dlc_of u) ≤ length u

-- the option is the length of the frame, if the levels include all before the data
abbrev pub TellsLength : List Level → Option ℕ → Type 0
TellsLength u None = length u < data_place (extended_of u)
TellsLength u (Some n) = HasControl u × (n ≡ frame_len u)

-- the data bytes
abbrev pub bytes_of : List Level → List ℕ
bytes_of u = bytes_from (byte_count (remote_of u) (dlc_of u)) (drop (data_place (extended_of u)) u)
