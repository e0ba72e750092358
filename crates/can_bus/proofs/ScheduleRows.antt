-- Schedules of offers whose starts are known from the lengths of the frames' wires: 50 levels of `S 000 D 0`, 47 of `S 001 D 0` and 49
-- of `S 009 D 0`, each with three of intermission.
use Rattle.std.proofs.Common.{◌≡◌, ℕ, ◌<◌, true, false, List, [], ◌∷◌, ◌++◌, map, refl, sym, ◌∙◌, ap, inl, inr, arith}
use Rattle.std.specs.Prelude.{codes}
use Rattle.std.specs.List.{range_with_len}
use Rattle.can_frame.specs.declared.level.Level.{Level}
use Rattle.can_frame.specs.Levels.{bits_of}
use Rattle.can_frame.specs.Arbitration.{arbitration_field, Before}
use Rattle.can_frame.proofs.BeforeLemmas.{Before-differs}
use Rattle.can_frame.specs.Parts.{Parts}
use Rattle.can_wire.specs.Crc.{crc_of}
use Rattle.can_wire.specs.Stuffing.{stuffed}
use Rattle.can_wire.specs.Wire.{head, unstuffed, stuffed_part}
use Rattle.can_node.specs.Ports.{waiting}
use Rattle.can_bus.specs.Course.{course_at, course_of}
use Rattle.can_bus.specs.Quiet.{span}
use Rattle.can_bus.specs.Timed.{TimedParts}
use Rattle.can_bus.specs.Schedule.{StartsAt, schedule, track_at, left_at, starts_between, FindsFree}
use Rattle.can_bus.specs.CourseWaiting.{ahead_of, busy_times}
use Rattle.can_bus.proofs.Members.{stands-none, stands-cases}
use Rattle.can_bus.proofs.RepairRows.{levels_of, frame_000, frame_001, frame_123, wire_000, wire_001, ones}

-- `S 009 D 0`, and it on the wire
abbrev frame_009 : Parts
frame_009 = record { id = record { raw = 9; extended = false }; remote = false; dlc = 0; bytes = [] }

abbrev wire_009 : List Level
wire_009 = levels_of (codes "0000010001001000001001111100000110000011011111111")

-- a frame at a time
abbrev at : ℕ → Parts → TimedParts
at time f = record { time = time; frame = f }

-- the first levels of a track
abbrev levels : List TimedParts → ℕ → List Level
levels starts count = map (track_at starts) (range_with_len 0 count)

-- ---- offered while another frame is on the wire: it waits, though it goes before that

abbrev late : List TimedParts
late = at 0 frame_001 ∷ at 1 frame_000 ∷ []

abbrev late_starts : List TimedParts
late_starts = at 0 frame_001 ∷ at 50 frame_000 ∷ []

one_late : schedule late ≡ late_starts
unfolding course_of waiting stuffed_part unstuffed stuffed crc_of head arbitration_field bits_of
one_late = refl

one_late-levels : levels late_starts 103 ≡ wire_001 ++ (ones 3 ++ (wire_000 ++ ones 3))
unfolding course_at stuffed_part unstuffed stuffed crc_of head arbitration_field bits_of
one_late-levels = refl

-- ---- offered in the last bit time of an intermission, and right after it: of two frames the one with higher priority starts

abbrev two_late : List TimedParts
two_late = at 0 frame_001 ∷ at 49 frame_009 ∷ at 50 frame_000 ∷ []

abbrev two_late_starts : List TimedParts
two_late_starts = at 0 frame_001 ∷ at 50 frame_000 ∷ at 103 frame_009 ∷ []

two_behind : schedule two_late ≡ two_late_starts
unfolding course_of waiting stuffed_part unstuffed stuffed crc_of head arbitration_field bits_of
two_behind = refl

two_behind-levels : levels two_late_starts 155 ≡ wire_001 ++ (ones 3 ++ (wire_000 ++ (ones 3 ++ (wire_009 ++ ones 3))))
unfolding course_at stuffed_part unstuffed stuffed crc_of head arbitration_field bits_of
two_behind-levels = refl

-- `S 009 D 0` waits 54 bit times: 1 is left of the intermission when it is offered, and 53 are those of the frame that starts in between.
-- Its bound is 104, because the frame that was on the bus has higher priority too, and was offered before it starts.
left_over : left_at 49 two_late_starts ≡ 1
unfolding stuffed_part unstuffed stuffed crc_of head arbitration_field bits_of
left_over = refl

meanwhile : busy_times (starts_between 49 103 two_late_starts) ≡ 53
unfolding span stuffed_part unstuffed stuffed crc_of head arbitration_field bits_of
meanwhile = refl

ahead : ahead_of frame_009 103 two_late ≡ at 0 frame_001 ∷ at 50 frame_000 ∷ []
unfolding arbitration_field bits_of
ahead = refl

ahead-busy : busy_times (ahead_of frame_009 103 two_late) ≡ 103
unfolding span stuffed_part unstuffed stuffed crc_of head arbitration_field bits_of
ahead-busy = refl

-- ---- offered to a bus that rests

abbrev spaced : List TimedParts
spaced = at 3 frame_000 ∷ at 100 frame_001 ∷ []

resting : schedule spaced ≡ spaced
unfolding course_of waiting stuffed_part unstuffed stuffed crc_of head arbitration_field bits_of
resting = refl

resting-levels : levels spaced 150 ≡ ones 3 ++ (wire_000 ++ (ones 47 ++ (wire_001 ++ ones 3)))
unfolding course_at stuffed_part unstuffed stuffed crc_of head arbitration_field bits_of
resting-levels = refl

-- the second finds the bus free, so it starts at once
found-free : left_at 100 spaced ≡ 0
unfolding stuffed_part unstuffed stuffed crc_of head arbitration_field bits_of
found-free = refl

found-started : (x start : TimedParts) → StartsAt spaced spaced x start → Before (arbitration_field x.frame) (arbitration_field frame_001) → start.time < 100
found-started x start starts before =
    elim (stands-cases (at 3 frame_000) (at 100 frame_001 ∷ []) start starts.is_start) [
      | inl first ↦ let begun : 3 ≡ start.time = ap (λ (s : TimedParts). s.time) first in omega arith
      | inr later ↦ elim (stands-cases (at 100 frame_001) [] start later) [
        | inl second ↦
            let same : x.frame ≡ frame_001 = sym starts.same ∙ sym (ap (λ (s : TimedParts). s.frame) second) in
            absurd (Before-differs (arbitration_field x.frame) (arbitration_field frame_001) before (ap arbitration_field same))
        | inr none ↦ absurd (stands-none start none)
      ]
    ]

found : FindsFree spaced spaced (at 100 frame_001)
found = record { free = found-free; started = λ x start starts early before. found-started x start starts before }

-- ---- offered at once

together : schedule (at 0 frame_001 ∷ at 0 frame_000 ∷ []) ≡ at 0 frame_000 ∷ at 53 frame_001 ∷ []
unfolding course_of waiting stuffed_part unstuffed stuffed crc_of head arbitration_field bits_of
together = refl

-- a data frame, a remote frame and an extended frame whose identifier begins with theirs: `S 123 D 0`, `S 123 R 0` and `E 048c0000 D 0`
abbrev remote_123 : Parts
remote_123 = record { id = record { raw = 0x123; extended = false }; remote = true; dlc = 0; bytes = [] }

abbrev extended_123 : Parts
extended_123 = record { id = record { raw = 0x48c0000; extended = true }; remote = false; dlc = 0; bytes = [] }

three_together : schedule (at 0 extended_123 ∷ at 0 remote_123 ∷ at 0 frame_123 ∷ []) ≡ at 0 frame_123 ∷ at 48 remote_123 ∷ at 96 extended_123 ∷ []
unfolding course_of waiting stuffed_part unstuffed stuffed crc_of head arbitration_field bits_of
three_together = refl

-- ---- offered later than the levels go

far : schedule (at 150 frame_001 ∷ []) ≡ at 150 frame_001 ∷ []
unfolding course_of waiting stuffed_part unstuffed stuffed crc_of head arbitration_field bits_of
far = refl

far-levels : levels (at 150 frame_001 ∷ []) 150 ≡ ones 150
unfolding course_at stuffed_part unstuffed stuffed crc_of head arbitration_field bits_of
far-levels = refl
