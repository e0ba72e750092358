-- Disturbed runs, and offers that are refused, whose outcome is known from elsewhere, computed in the words of the relation.
use Rattle.std.specs.Prelude.{codes, ◌-◌, not, slice_index_or}
use Rattle.std.specs.List.{filter, list_all, range_with_len}
use Rattle.std.proofs.Common.{◌≡◌, ℕ, ◌+◌, ◌<◌, ◌≤◌, true, false, List, [], ◌∷◌, ◌++◌, length, map, refl, sym, ap, ◌∙◌, arith}
use Rattle.std.proofs.lemmas.Bool.{false≢true}
use Rattle.std.proofs.lemmas.List.FromFn.{length-range_with_len, get_or-range_with_len}
use Rattle.std.proofs.lemmas.List.Sums.{AllPass-from_list_all}
use Rattle.can_frame.specs.declared.level.Level.{Level}
use Rattle.can_frame.specs.Levels.{level_of, bits_of, opposite}
use Rattle.can_frame.specs.Arbitration.{arbitration_field}
use Rattle.can_frame.specs.Parts.{Parts}
use Rattle.can_wire.specs.Crc.{crc_of}
use Rattle.can_wire.specs.Wire.{head, unstuffed}
use Rattle.can_wire.specs.Layout.{frame_of, frame_len}
use Rattle.can_mac.specs.State.{idle}
use Rattle.can_mac.specs.Moves.{agrees}
use Rattle.can_mac.specs.Machine.{mac_drives, mac_step}
use Rattle.can_node.specs.Ports.{PortState, fresh_port, port_offered, port_drives, port_step, waiting, without}
use Rattle.can_terms.specs.declared.hit.Hit.TheVariants.{At, In}
use Rattle.can_bus.specs.declared.offer.Offer.{Offer}
use Rattle.can_bus.specs.Disturbed.{level_then, rest_before, begins_at, attempts_before, FallsOnWire}
use Rattle.can_bus.specs.DisturbedPlay.{played_then, refusals}
use Rattle.can_bus.specs.Wired.{wired as wired_of}

-- the levels of a text of `0` and `1`
abbrev levels_of : List ℕ → List Level
levels_of text = map (λ c. level_of (c - 48)) text

-- the times of a run at which attempts begin, on a bus that was at rest
abbrev beginnings : List Level → List Level → List ℕ
beginnings wired recorded = filter (begins_at 11 wired recorded) (range_with_len 0 (length recorded))

-- n times from one on, tested one by one
none_tested : (rest : ℕ) (wired recorded : List Level) (from n : ℕ) → list_all (λ t. not (begins_at rest wired recorded t)) (range_with_len from n) ≡ true →
    (t : ℕ) → from ≤ t → t < from + n → begins_at rest wired recorded t ≡ false
none_tested rest wired recorded from n tested t low high =
    let pass = AllPass-from_list_all (λ u. not (begins_at rest wired recorded u)) (range_with_len from n) tested in
    let place : t - from < n = omega (arith, low, high) in
    let inside : t - from < length (range_with_len from n) = omega (arith, place, length-range_with_len from n) in
    let at : slice_index_or (range_with_len from n) (t - from) 0 ≡ t = get_or-range_with_len from n (t - from) 0 place ∙ (let e : from + (t - from) ≡ t = omega (arith, low) in e) in
    let told : not (begins_at rest wired recorded t) ≡ true = ap (λ u. not (begins_at rest wired recorded u)) (sym at) ∙ pass (t - from) 0 inside in
    grind (arith, told)

-- The standard data frame 000 without data and a receiver. The reserved bit, at 16, is inverted on the wire: a bit
-- error to the transmitter, whose flag follows, and then a stuff error to the receiver, whose flag follows that. With 40
-- the frame begins again.

abbrev frame_again : List ℕ
frame_again = codes "00000000000011111111111" ++ codes "00000100000100000100000100000100000100001011111111111"

abbrev wired_once : List Level
wired_once = levels_of (codes "00000100000100000" ++ frame_again)

abbrev recorded_once : List Level
recorded_once = levels_of (codes "00000100000100001" ++ frame_again)

two_attempts : beginnings wired_once recorded_once ≡ 0 ∷ 40 ∷ []
unfolding begins_at rest_before
two_attempts = refl

-- a hit 16 bit times into the first attempt falls on 16, and so does one at 16; the level is inverted once
falls_in_first : FallsOnWire 11 wired_once recorded_once (In 0 16) 16
unfolding begins_at rest_before attempts_before
falls_in_first = (
  0,
  record { begins = refl; number = refl },
  refl,
  λ t low high. none_tested 11 wired_once recorded_once 1 16 refl t (omega (arith, low)) (omega (arith, high)),
)

falls_at_time : FallsOnWire 11 wired_once recorded_once (At 16) 16
falls_at_time = refl

inverted_once : level_then recorded_once 16 ≡ opposite (level_then wired_once 16)
inverted_once = refl

-- three bit times into the second attempt
falls_in_second : FallsOnWire 11 wired_once recorded_once (In 1 3) 43
unfolding begins_at rest_before attempts_before
falls_in_second = (
  40,
  record { begins = refl; number = refl },
  refl,
  λ t low high. none_tested 11 wired_once recorded_once 41 3 refl t (omega (arith, low)) (omega (arith, high)),
)

-- the first attempt is over once the second has begun
falls_no_more : FallsOnWire 11 wired_once recorded_once (In 0 41) 41 → ⊥
unfolding begins_at rest_before
falls_no_more f =
    let start : f.0 ≡ 0 = omega (arith, f.2) in
    let over : begins_at 11 wired_once recorded_once 40 ≡ false = f.3 40 (omega (arith, start)) (omega arith) in
    false≢true (sym over)

-- the ports of that run, by what they saw
abbrev frame_zero : Parts
frame_zero = record { id = record { raw = 0; extended = false }; remote = false; dlc = 0; bytes = [] }

abbrev sender_and_receiver : List PortState
sender_and_receiver = port_offered frame_zero (fresh_port idle 1 1) ∷ fresh_port idle 0 1 ∷ []

abbrev both_saw : List (List Level)
both_saw = recorded_once ∷ recorded_once ∷ []

-- the transmitter's flag goes on up to 22 and the receiver's up to 28, and with 40 the transmitter starts again
driven_then : map (λ t. wired_of (map port_drives (played_then [] t 0 sender_and_receiver both_saw))) (16 ∷ 17 ∷ 22 ∷ 23 ∷ 28 ∷ 29 ∷ 39 ∷ 40 ∷ []) ≡ levels_of (codes "00000110")
unfolding wired_of port_drives mac_drives port_step waiting without mac_step agrees crc_of frame_of frame_len bits_of unstuffed head arbitration_field
driven_then = refl

counted_at_last : map (λ (p : PortState). p.mac.counters.tec) (played_then [] 93 0 sender_and_receiver both_saw) ≡ 7 ∷ 0 ∷ []
unfolding port_step waiting without mac_step agrees crc_of frame_of frame_len bits_of unstuffed head arbitration_field
counted_at_last = refl

logged_at_last : map (λ (p : PortState). p.log) (played_then [] 93 0 sender_and_receiver both_saw) ≡ (record { frame = frame_zero; sent = true } ∷ []) ∷ (record { frame = frame_zero; sent = false } ∷ []) ∷ []
unfolding port_step waiting without mac_step agrees crc_of frame_of frame_len bits_of unstuffed head arbitration_field
logged_at_last = refl

-- Two idle ports. A dominant level is recorded at 5, which no port drove; the sixth recessive level after it is a stuff error at both. No
-- attempt begins, and a hit in one falls nowhere.

abbrev wired_idle : List Level
wired_idle = levels_of (codes "111111111111000000111111111111")

abbrev recorded_idle : List Level
recorded_idle = levels_of (codes "111110111111000000111111111111")

no_attempt : beginnings wired_idle recorded_idle ≡ []
unfolding begins_at rest_before
no_attempt = refl

falls_nowhere : (t : ℕ) → t < 30 → FallsOnWire 11 wired_idle recorded_idle (In 0 3) t → ⊥
unfolding begins_at rest_before
falls_nowhere t within f =
    false≢true (sym (none_tested 11 wired_idle recorded_idle 0 30 refl f.0 (omega arith) (omega (arith, within, f.2))) ∙ f.1.begins)

-- One port alone with that frame. Nobody acknowledges, at 41; its second attempt begins at 59.

abbrev line_alone : List Level
line_alone = levels_of (codes "00000100000100000100000100000100000100001100000011111111111" ++ codes "00000100")

alone_again : beginnings line_alone line_alone ≡ 0 ∷ 59 ∷ []
unfolding begins_at rest_before
alone_again = refl

-- A port whose queue has capacity for one frame, and a receiver. The frame is offered twice at 0, at 49, at 50 and at 60. The second
-- finds the queue full; and so does the third, because the frame leaves the queue with the last level of its end of frame, which is 49.
-- The fourth finds space. An offer after the end of a run is not made, and not refused.

abbrev offered_often : List Offer
offered_often = map (λ t. let offer : Offer = record { time = t; node = 0; frame = frame_zero } in offer) (0 ∷ 0 ∷ 49 ∷ 50 ∷ 60 ∷ [])

abbrev room_for_one : List PortState
room_for_one = fresh_port idle 1 2 ∷ fresh_port idle 0 2 ∷ []

abbrev frame_once : List Level
frame_once = levels_of (codes "000001000001000001000001000001000001000010111111111")

refused_while_full : map (λ bits. refusals offered_often room_for_one (frame_once ∷ frame_once ∷ []) bits [] offered_often) (0 ∷ 1 ∷ 49 ∷ 50 ∷ 51 ∷ []) ≡ 0 ∷ 1 ∷ 1 ∷ 2 ∷ 2 ∷ []
unfolding port_step waiting without mac_step agrees crc_of frame_of frame_len bits_of unstuffed head arbitration_field
refused_while_full = refl
