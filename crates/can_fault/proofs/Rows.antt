-- The definitions computed on values that follow from the standard.
use Rattle.std.proofs.Common.{◌≡◌, ℕ, ◌-◌, List, [], ◌∷◌, ◌++◌, map, replicate, fold, refl, true, false}
use Rattle.std.specs.Prelude.{codes}
use Rattle.can_frame.specs.declared.level.Level.{Level}
use Rattle.can_frame.specs.declared.level.Level.TheVariants.{Dominant, Recessive}
use Rattle.can_frame.specs.Levels.{level_of}
use Rattle.can_fault.specs.declared.cause.Cause.{Cause}
use Rattle.can_fault.specs.declared.cause.Cause.TheVariants.{ReceiverError, ReceiverFlagBit, ReceiverFirstDominant, ReceiverDominantRun, SenderError, SenderFlagBit, SenderDominantRun, PassiveUnacknowledged, FrameSent, FrameReceived}
use Rattle.can_fault.specs.declared.state.State.TheVariants.{Active, Passive, BusOff}
use Rattle.can_fault.specs.Counters.{ConfineParts, fresh, state_of, counted}
use Rattle.can_fault.specs.Recovery.{recessive_runs, occurrences_in, last_run, after_levels, recovered, ends_bus_off}

-- the levels of a text of `0` and `1`
abbrev levels_of : List ℕ → List Level
levels_of text = map (λ c. level_of (c - 48)) text

-- what causes make of a node that has counted no error
abbrev after : List Cause → ConfineParts
after causes = fold (λ c cause. counted cause c) fresh causes

-- Each cause, at a node with a TEC of 20 and a REC of 50.

abbrev counters : ℕ → ℕ → ConfineParts
counters tec rec = record fresh { tec = tec; rec = rec }

-- an error of a receiver counts 1
receiver_error : counted ReceiverError (counters 20 50) ≡ counters 20 51
receiver_error = refl

-- a bit error in the own flag, a dominant level after the error flag, and eight of them count 8
receiver_flag_bit : counted ReceiverFlagBit (counters 20 50) ≡ counters 20 58
receiver_flag_bit = refl

receiver_first_dominant : counted ReceiverFirstDominant (counters 20 50) ≡ counters 20 58
receiver_first_dominant = refl

receiver_dominant_run : counted ReceiverDominantRun (counters 20 50) ≡ counters 20 58
receiver_dominant_run = refl

-- each error of a sender counts 8
sender_error : counted SenderError (counters 20 50) ≡ counters 28 50
sender_error = refl

sender_flag_bit : counted SenderFlagBit (counters 20 50) ≡ counters 28 50
sender_flag_bit = refl

sender_dominant_run : counted SenderDominantRun (counters 20 50) ≡ counters 28 50
sender_dominant_run = refl

passive_unacknowledged : counted PassiveUnacknowledged (counters 20 50) ≡ counters 28 50
passive_unacknowledged = refl

-- a frame sent takes 1 from the TEC, and a frame received 1 from the REC; 0 stays
frame_sent : counted FrameSent (counters 20 50) ≡ counters 19 50
frame_sent = refl

frame_sent_at_0 : counted FrameSent (counters 0 50) ≡ counters 0 50
frame_sent_at_0 = refl

frame_sent_while_passive : counted FrameSent (counters 255 50) ≡ counters 254 50
frame_sent_while_passive = refl

frame_received : counted FrameReceived (counters 20 50) ≡ counters 20 49
frame_received = refl

frame_received_at_0 : counted FrameReceived (counters 20 0) ≡ counters 20 0
frame_received_at_0 = refl

-- a REC of at most 127 falls by 1, a greater one to 127
frame_received_at_127 : counted FrameReceived (counters 20 127) ≡ counters 20 126
frame_received_at_127 = refl

frame_received_at_128 : counted FrameReceived (counters 20 128) ≡ counters 20 127
frame_received_at_128 = refl

frame_received_at_255 : counted FrameReceived (counters 20 255) ≡ counters 20 127
frame_received_at_255 = refl

-- while it is bus off no cause changes anything
each_cause : List Cause
each_cause =
    ReceiverError ∷ ReceiverFlagBit ∷ ReceiverFirstDominant ∷ ReceiverDominantRun ∷ SenderError ∷ SenderFlagBit ∷ SenderDominantRun
    ∷ PassiveUnacknowledged ∷ FrameSent ∷ FrameReceived ∷ []

off_unchanged : map (λ cause. counted cause (counters 256 50)) each_cause ≡ replicate 10 (counters 256 50)
unfolding each_cause
off_unchanged = refl

-- The states at their limits, by TEC and by REC.

active_at_127 : state_of (counters 127 127) ≡ Active
active_at_127 = refl

passive_at_a_tec_of_128 : state_of (counters 128 0) ≡ Passive
passive_at_a_tec_of_128 = refl

passive_at_a_rec_of_128 : state_of (counters 0 128) ≡ Passive
passive_at_a_rec_of_128 = refl

passive_at_a_rec_of_255 : state_of (counters 0 255) ≡ Passive
passive_at_a_rec_of_255 = refl

passive_at_a_tec_of_255 : state_of (counters 255 0) ≡ Passive
passive_at_a_tec_of_255 = refl

off_at_a_tec_of_256 : state_of (counters 256 0) ≡ BusOff
off_at_a_tec_of_256 = refl

-- active again as soon as both are at most 127
active_again : state_of (counted FrameSent (counters 128 0)) ≡ Active
active_again = refl

not_active_by_tec_alone : state_of (counted FrameSent (counters 128 128)) ≡ Passive
not_active_by_tec_alone = refl

-- Many causes, one after another.

fifteen : state_of (after (replicate 15 SenderError)) ≡ Active
fifteen = refl

sixteen : state_of (after (replicate 16 SenderError)) ≡ Passive
sixteen = refl

thirty_one : state_of (after (replicate 31 SenderError)) ≡ Passive
thirty_one = refl

thirty_two : state_of (after (replicate 32 SenderError)) ≡ BusOff
thirty_two = refl

highest_tec : after (replicate 31 SenderError ++ FrameSent ∷ SenderError ∷ SenderError ∷ SenderError ∷ FrameSent ∷ ReceiverError ∷ []) ≡ record fresh { tec = 263 }
highest_tec = refl

highest_rec : (after (replicate 256 ReceiverError)).rec ≡ 255
highest_rec = refl

by_eight : (after (replicate 31 ReceiverFlagBit)).rec ≡ 248
by_eight = refl

by_eight_to_the_end : (after (replicate 32 ReceiverFlagBit)).rec ≡ 255
by_eight_to_the_end = refl

good_reception : (after (replicate 256 ReceiverError ++ FrameReceived ∷ [])).rec ≡ 127
good_reception = refl

good_receptions : (after (replicate 256 ReceiverError ++ FrameReceived ∷ FrameReceived ∷ [])).rec ≡ 126
good_receptions = refl

runs : recessive_runs (levels_of (codes "1100110001")) ≡ 2 ∷ 0 ∷ 2 ∷ 0 ∷ 0 ∷ 1 ∷ []
runs = refl

ten_recessive : occurrences_in (replicate 10 Recessive) ≡ 0
unfolding occurrences_in
ten_recessive = refl

eleven_recessive : occurrences_in (replicate 11 Recessive) ≡ 1
unfolding occurrences_in
eleven_recessive = refl

no_overlap : occurrences_in (replicate 21 Recessive) ≡ 1
unfolding occurrences_in
no_overlap = refl

all_recessive : occurrences_in (replicate 1407 Recessive) ≡ 127
unfolding occurrences_in
all_recessive = refl

all_occurrences : occurrences_in (replicate 1408 Recessive) ≡ 128
unfolding occurrences_in
all_occurrences = refl

interrupted : occurrences_in (replicate 10 Recessive ++ Dominant ∷ replicate 1407 Recessive) ≡ 127
unfolding occurrences_in
interrupted = refl

row_at_end : last_run (replicate 30 Recessive ++ Dominant ∷ replicate 13 Recessive) ≡ 13
unfolding last_run
row_at_end = refl

-- bus off, with 127 occurrences and ten recessive levels
nearly : ConfineParts
nearly = record { tec = 256; rec = 9; occurrences = 127; row = 10 }

one_more : recovered Recessive nearly ≡ fresh
unfolding nearly
one_more = refl

from_the_start_of_a_row : recovered Dominant nearly ≡ record nearly { row = 0 }
unfolding nearly
from_the_start_of_a_row = refl

off_until : ends_bus_off Dominant nearly ≡ false
unfolding nearly
off_until = refl

on_again : ends_bus_off Recessive nearly ≡ true
unfolding nearly
on_again = refl

waited : after_levels (record { tec = 256; rec = 9; occurrences = 3; row = 10 }) (levels_of (codes "1111011111111111")) ≡ record { tec = 256; rec = 9; occurrences = 5; row = 0 }
unfolding occurrences_in last_run
waited = refl
