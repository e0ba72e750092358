-- The layout of a frame: how the unstuffed levels determine its length and its parts. (Bosch CAN 2.0 part B,
-- section 3.2.1)
--
--     place    0    1..11        12    13    14   15..18
--     standard SOF  identifier   RTR   IDE   r0   data length code, then data and CRC sequence
--
--     place    0    1..11        12    13    14..31       32    33   34   35..38
--     extended SOF  identifier   SRR   IDE   identifier   RTR   r1   r0   data length code, then data and CRC sequence
use Rattle.std.specs.Prelude.{ℕ, zero, suc, ◌≡◌, ◌+◌, ◌-◌, ◌*◌, Bool, if◌then◌else◌, List, [], ◌∷◌, ◌++◌, length, take, drop, slice_index_or}
use Rattle.can_frame.specs.declared.level.Level.{Level}
use Rattle.can_frame.specs.declared.level.Level.TheVariants.{Dominant, Recessive}
use Rattle.can_frame.specs.Levels.{is_recessive, number_from}
use Rattle.can_frame.specs.Parts.{Parts, byte_count}
use Rattle.can_wire.specs.Stuffing.{Stuffs}
use Rattle.can_wire.specs.Heard.{HeardParts}

-- the level at a place; places past the end count as dominant
abbrev pub level_at : List Level → ℕ → Level
level_at u p = slice_index_or u p Dominant

-- the first n levels; places past the end count as dominant
abbrev pub filled : ℕ → List Level → List Level
filled zero u = []
filled (suc n) [] = Dominant ∷ filled n []
filled (suc n) (x ∷ u) = x ∷ filled n u

-- the n levels from place p on
abbrev pub levels_at : List Level → ℕ → ℕ → List Level
levels_at u p n = filled n (drop p u)

-- the IDE bit is recessive in an extended frame
abbrev pub extended_of : List Level → Bool
extended_of u = is_recessive (level_at u 13)

-- the place of the RTR bit
abbrev pub rtr_place : Bool → ℕ
rtr_place extended = if extended then 32 else 12

-- the place of the data: after the RTR bit, two more bits and the four of the data length code
abbrev pub data_place : Bool → ℕ
data_place extended = rtr_place extended + 7

-- the RTR bit is recessive in a remote frame
abbrev pub remote_of : List Level → Bool
remote_of u = is_recessive (level_at u (rtr_place (extended_of u)))

-- the data length code
abbrev pub dlc_of : List Level → ℕ
dlc_of u = number_from 0 (levels_at u (rtr_place (extended_of u) + 3) 4)

-- how many unstuffed levels, CRC sequence included, the frame that begins with u has
unfoldable pub frame_len : List Level → ℕ
frame_len u = data_place (extended_of u) + 8 * byte_count (remote_of u) (dlc_of u) + 15

-- u is all unstuffed levels of a frame, from the start of frame to the end of the CRC sequence
pub record IsComplete (u : List Level) : Type 0 where
  pub start : level_at u 0 ≡ Dominant
  pub whole : length u ≡ frame_len u

-- b is a complete stuffed part, and u its levels without stuff bits
pub record IsPart (u b : List Level) : Type 0 where
  pub complete : IsComplete u
  pub stuffs : Stuffs u b

-- the identifier's levels: after the SOF, and in an extended frame also after the IDE bit
abbrev pub identifier_of : List Level → List Level
identifier_of u = if extended_of u then levels_at u 1 11 ++ levels_at u 14 18 else levels_at u 1 11

-- the first n bytes, each of eight levels
abbrev pub bytes_from : ℕ → List Level → List ℕ
bytes_from zero u = []
bytes_from (suc n) u = number_from 0 (filled 8 u) ∷ bytes_from n (drop 8 u)

-- the frame that begins with u
unfoldable pub frame_of : List Level → Parts
frame_of u = record {
  id = record { raw = number_from 0 (identifier_of u); extended = extended_of u };
  remote = remote_of u;
  dlc = dlc_of u;
  bytes = bytes_from (byte_count (remote_of u) (dlc_of u)) (drop (data_place (extended_of u)) u);
}

-- the frame as received whose unstuffed levels are u; a standard frame has no SRR and no r1
unfoldable pub heard_of : List Level → Bool → Level → HeardParts
heard_of u acked last = record {
  frame = frame_of u;
  srr = if extended_of u then level_at u 12 else Recessive;
  r1 = if extended_of u then level_at u 33 else Dominant;
  r0 = level_at u (rtr_place (extended_of u) + 2);
  acked = acked;
  last = last;
}

-- the CRC sequence: the last fifteen levels
abbrev pub check_of : List Level → List Level
check_of u = drop (length u - 15) u

-- the levels before the CRC sequence
abbrev pub head_of : List Level → List Level
head_of u = take (length u - 15) u
