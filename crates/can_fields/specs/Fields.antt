-- The field of each place of a frame's unstuffed levels. (Bosch CAN 2.0 part B, section 3.2.1)
--
--     place    0    1..11        12    13    14   15..18
--     standard SOF  identifier   RTR   IDE   r0   data length code, then data and CRC sequence
--
--     place    0    1..11        12    13    14..31       32    33   34   35..38
--     extended SOF  identifier   SRR   IDE   identifier   RTR   r1   r0   data length code, then data and CRC sequence
use Rattle.std.specs.Prelude.{ℕ, ◌+◌, ◌*◌, ◌==◌, nat_lt, if◌then◌else◌, List, length}
use Rattle.can_frame.specs.declared.level.Level.{Level}
use Rattle.can_frame.specs.Parts.{byte_count}
use Rattle.can_wire.specs.Layout.{dlc_of, extended_of, remote_of, rtr_place}
use Rattle.can_fields.specs.declared.field.Field.{Field}
use Rattle.can_fields.specs.declared.field.Field.TheVariants.{StartOfFrame, Identifier, RemoteOrSubstitute, RemoteRequest, SubstituteRequest, IdentifierExtension, ReservedOne, ReservedZero, DataLength, Data, CheckSequence}

-- how many levels the data bytes have
abbrev pub data_levels : List Level → ℕ
data_levels u = 8 * byte_count (remote_of u) (dlc_of u)

-- The field of a place after the IDE bit, if the RTR bit is at place rtr: the rest of an extended identifier, RTR, and
-- in an extended frame r1; then r0, four levels of the data length code, the data and the CRC sequence.
abbrev pub field_from_rtr : List Level → ℕ → ℕ → Field
field_from_rtr u rtr place =
    if nat_lt place rtr then Identifier
    else if place == rtr then RemoteRequest
    else if place == rtr + 1 then ReservedOne
    else if place == rtr + 2 then ReservedZero
    else if nat_lt place (rtr + 7) then DataLength
    else if nat_lt place (rtr + 7 + data_levels u) then Data
    else CheckSequence

-- the field of a place, in the frame that begins with the levels u
abbrev pub field_at : List Level → ℕ → Field
field_at u place =
    if place == 0 then StartOfFrame
    else if nat_lt place 12 then Identifier
    else if place == 12 then
    (if nat_lt (length u) 14 then RemoteOrSubstitute
    else if extended_of u then SubstituteRequest
    else RemoteRequest)
    else if place == 13 then IdentifierExtension
    else field_from_rtr u (rtr_place (extended_of u)) place
