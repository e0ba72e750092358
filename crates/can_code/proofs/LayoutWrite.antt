-- Complete unstuffed levels are the levels of the frame that they determine.
use Rattle.std.proofs.Common.{◌≡◌, ℕ, ◌+◌, ◌-◌, ◌*◌, ◌/◌, ◌^◌, ◌≤◌, Bool, true, false, cond, List, [], ◌∷◌, ◌++◌, length, drop, refl, sym, ◌∙◌, ap, arith, append_assoc, length-append, inl, inr}
use Rattle.std.specs.List.{flat_map}
use Rattle.std.proofs.lemmas.Bool.{cond-false, cases_Bool}
use Rattle.std.proofs.lemmas.List.{drop-drop, length-drop}
use Rattle.can_frame.specs.declared.level.Level.{Level}
use Rattle.can_frame.specs.declared.level.Level.TheVariants.{Dominant, Recessive}
use Rattle.can_frame.specs.Levels.{is_recessive, level_from, bits_of, number_from}
use Rattle.can_frame.specs.Ident.{IsIdent}
use Rattle.can_frame.specs.Parts.{IsFrame, byte_count}
use Rattle.can_wire.specs.Heard.{IsHeard, heard_head}
use Rattle.can_wire.specs.Layout.{level_at, levels_at, extended_of, rtr_place, data_place, remote_of, dlc_of, frame_len, IsComplete, identifier_of, bytes_from, frame_of, heard_of, check_of, head_of}
use Rattle.can_wire.proofs.LayoutNumbers.{number_from-lt, number_from-append, number_from-upper, bits_of-number_from}
use Rattle.can_wire.proofs.LayoutPlaces.{length-filled, next_level, next_levels}
use Rattle.can_wire.proofs.LayoutBytes.{length-bytes_from, bytes_from-small, levels-bytes_from}
use Rattle.can_wire.proofs.LayoutLengths.{frame_len_ge}
use Rattle.can_wire.proofs.LayoutRead.{head_of-append}
use Rattle.can_frame.proofs.LevelTests.{level_told, level_dominant, level_recessive}
use Rattle.can_code.proofs.ReadingLemmas.{levels_at-lt}

-- n levels spell a number of n bits
identifier_small : (u : List Level) → IsIdent (record { raw = number_from 0 (identifier_of u); extended = extended_of u })
identifier_small u = by_kind (extended_of u)
  where
    by_kind : (extended : Bool) → IsIdent (record { raw = number_from 0 (cond extended (levels_at u 1 11 ++ levels_at u 14 18) (levels_at u 1 11)); extended = extended })
    by_kind false = levels_at-lt u 1 11
    by_kind true =
        let whole = levels_at u 1 11 ++ levels_at u 14 18 in
        let size : length whole ≡ 29 =
        length-append (levels_at u 1 11) (levels_at u 14 18)
        ∙ ap (λ t. t + length (levels_at u 14 18)) (length-filled 11 (drop 1 u))
        ∙ ap (λ t. 11 + t) (length-filled 18 (drop 14 u)) in
        omega (arith, number_from-lt whole, ap (λ t. 2 ^ t) size)

-- what levels determine is a frame
pub IsFrame-frame_of : (u : List Level) → IsFrame (frame_of u)
unfolding frame_of
IsFrame-frame_of u =
    let n = byte_count (remote_of u) (dlc_of u) in
    let rest = drop (data_place (extended_of u)) u in
    record {
      id = identifier_small u;
      dlc = levels_at-lt u (rtr_place (extended_of u) + 3) 4;
      count = length-bytes_from n rest;
      small = bytes_from-small n rest;
    }

-- what levels determine can be received
pub IsHeard-heard_of : (u : List Level) (acked : Bool) (last : Level) → IsHeard (heard_of u acked last)
unfolding heard_of frame_of
IsHeard-heard_of u acked last = record {
  frame = IsFrame-frame_of u;
  srr = λ standard. cond-false (extended_of u) (level_at u 12) Recessive standard;
  r1 = λ standard. cond-false (extended_of u) (level_at u 33) Dominant standard;
}

-- the data length code and the data, if the code is at place p
data_at : List Level → (p count : ℕ) → List Level
data_at u p count = bits_of 4 (number_from 0 (levels_at u p 4)) ++ flat_map (bits_of 8) (bytes_from count (drop (p + 4) u))

data_written : (u : List Level) (p count : ℕ) → p + 19 + 8 * count ≡ length u → drop p u ≡ data_at u p count ++ check_of u
unfolding data_at
data_written u p count size =
    let code = levels_at u p 4 in
    let rest = drop (p + 4) u in
    let bytes = flat_map (bits_of 8) (bytes_from count rest) in
    let room : 8 * count ≤ length rest = omega (arith, length-drop (p + 4) u) in
    let last : (p + 4) + 8 * count ≡ length u - 15 = omega arith in
    next_levels u p 4 (p + 4) refl (omega arith)
    ∙ ap (λ t. t ++ rest) (sym (bits_of-number_from 4 0 code (length-filled 4 (drop p u))))
    ∙ ap (λ t. bits_of 4 (number_from 0 code) ++ t) (levels-bytes_from count rest room)
    ∙ ap (λ t. bits_of 4 (number_from 0 code) ++ (bytes ++ t)) (drop-drop (8 * count) (p + 4) u)
    ∙ ap (λ t. bits_of 4 (number_from 0 code) ++ (bytes ++ drop t u)) last
    ∙ sym (append_assoc (bits_of 4 (number_from 0 code)) bytes (check_of u))

-- from the RTR bit at place r on: the two bits after it, and the data
control_written : (u : List Level) (r count : ℕ) → r + 22 + 8 * count ≡ length u
    → drop r u ≡ level_from (is_recessive (level_at u r)) ∷ level_at u (r + 1) ∷ level_at u (r + 2) ∷ (data_at u (r + 3) count ++ check_of u)
control_written u r count size =
    let rtr = next_level u r (r + 1) refl (omega arith) in
    let second = next_level u (r + 1) (r + 2) (omega arith) (omega arith) in
    let third = next_level u (r + 2) (r + 3) (omega arith) (omega arith) in
    let rest = data_written u (r + 3) count (omega arith) in
    rtr
    ∙ ap (λ t. t ∷ drop (r + 1) u) (sym (level_told (level_at u r)))
    ∙ ap (λ t. level_from (is_recessive (level_at u r)) ∷ t) (second ∙ ap (λ t. level_at u (r + 1) ∷ t) (third ∙ ap (λ t. level_at u (r + 2) ∷ t) rest))

-- a standard frame's levels
standard_levels : (u : List Level) (count : ℕ) → level_at u 0 ≡ Dominant → level_at u 13 ≡ Dominant → 34 + 8 * count ≡ length u
    → u ≡ Dominant ∷ (((bits_of 11 (number_from 0 (levels_at u 1 11)) ++ level_from (is_recessive (level_at u 12)) ∷ Dominant ∷ []) ++ level_at u 14 ∷ data_at u 15 count) ++ check_of u)
standard_levels u count start ide size =
    let raw = number_from 0 (levels_at u 1 11) in
    let identifier = bits_of-number_from 11 0 (levels_at u 1 11) (length-filled 11 (drop 1 u)) in
    let first = next_level u 0 1 refl (omega arith) in
    let second = next_levels u 1 11 12 refl (omega arith) in
    let third = control_written u 12 count size in
    let rest = level_at u 14 ∷ data_at u 15 count in
    let regroup_field = append_assoc (bits_of 11 raw) (level_from (is_recessive (level_at u 12)) ∷ Dominant ∷ []) rest in
    let regroup = append_assoc (bits_of 11 raw) (level_from (is_recessive (level_at u 12)) ∷ Dominant ∷ rest) (check_of u) in
    cc

-- an extended frame's levels
extended_levels : (u : List Level) (count : ℕ) → level_at u 0 ≡ Dominant → level_at u 13 ≡ Recessive → 54 + 8 * count ≡ length u
    → u ≡ Dominant ∷ (((bits_of 11 (number_from 0 (levels_at u 1 11 ++ levels_at u 14 18) / 2 ^ 18) ++ level_at u 12 ∷ Recessive
    ∷ (bits_of 18 (number_from 0 (levels_at u 1 11 ++ levels_at u 14 18)) ++ level_from (is_recessive (level_at u 32)) ∷ [])) ++ level_at u 33 ∷ level_at u 34 ∷ data_at u 35 count) ++ check_of u)
extended_levels u count start ide size =
    let upper = levels_at u 1 11 in
    let lower = levels_at u 14 18 in
    let raw = number_from 0 (upper ++ lower) in
    let upper_size = length-filled 11 (drop 1 u) in
    let lower_size = length-filled 18 (drop 14 u) in
    let upper_back : bits_of 11 (raw / 2 ^ 18) ≡ upper = ap (bits_of 11) (number_from-upper 0 18 upper lower lower_size) ∙ bits_of-number_from 11 0 upper upper_size in
    let lower_back : bits_of 18 raw ≡ lower = ap (bits_of 18) (number_from-append 0 upper lower) ∙ bits_of-number_from 18 (number_from 0 upper) lower lower_size in
    let first = next_level u 0 1 refl (omega arith) in
    let second = next_levels u 1 11 12 refl (omega arith) in
    let third = next_level u 12 13 refl (omega arith) in
    let fourth = next_level u 13 14 refl (omega arith) in
    let fifth = next_levels u 14 18 32 refl (omega arith) in
    let sixth = control_written u 32 count size in
    let rtr = level_from (is_recessive (level_at u 32)) ∷ [] in
    let rest = level_at u 33 ∷ level_at u 34 ∷ data_at u 35 count in
    let last = level_from (is_recessive (level_at u 32)) ∷ rest in
    let regroup_field = append_assoc (bits_of 11 (raw / 2 ^ 18)) (level_at u 12 ∷ Recessive ∷ (bits_of 18 raw ++ rtr)) rest in
    let regroup_rtr = append_assoc (bits_of 18 raw) rtr rest in
    let regroup = append_assoc (bits_of 11 (raw / 2 ^ 18)) (level_at u 12 ∷ Recessive ∷ (bits_of 18 raw ++ last)) (check_of u) in
    let regroup_lower = append_assoc (bits_of 18 raw) last (check_of u) in
    cc

standard_written : (u : List Level) (acked : Bool) (last : Level) → IsComplete u → extended_of u ≡ false → u ≡ heard_head (heard_of u acked last) ++ check_of u
unfolding heard_head heard_of frame_of frame_len data_at
standard_written u acked last is standard =
    let count = byte_count (is_recessive (level_at u 12)) (number_from 0 (levels_at u 15 4)) in
    let size : 12 + 22 + 8 * count ≡ length u = omega (arith, rw standard at is.whole) in
    rw standard (standard_levels u count is.start (level_dominant (level_at u 13) standard) size)

extended_written : (u : List Level) (acked : Bool) (last : Level) → IsComplete u → extended_of u ≡ true → u ≡ heard_head (heard_of u acked last) ++ check_of u
unfolding heard_head heard_of frame_of frame_len data_at
extended_written u acked last is extended =
    let count = byte_count (is_recessive (level_at u 32)) (number_from 0 (levels_at u 35 4)) in
    let size : 32 + 22 + 8 * count ≡ length u = omega (arith, rw extended at is.whole) in
    rw extended (extended_levels u count is.start (level_recessive (level_at u 13) extended) size)

-- complete levels are the head of what they determine, and then their CRC sequence
pub heard_head-heard_of : (u : List Level) (acked : Bool) (last : Level) → IsComplete u → u ≡ heard_head (heard_of u acked last) ++ check_of u
heard_head-heard_of u acked last is = elim (cases_Bool (extended_of u)) [
  | inl extended ↦ extended_written u acked last is extended
  | inr standard ↦ standard_written u acked last is standard
]

-- the CRC sequence has fifteen levels
pub length-check_of : (u : List Level) → IsComplete u → length (check_of u) ≡ 15
length-check_of u is = omega (arith, length-drop (length u - 15) u, is.whole, frame_len_ge u)

-- the levels before the CRC sequence are the head of what they determine
pub head_of-heard_head : (u : List Level) (acked : Bool) (last : Level) → IsComplete u → head_of u ≡ heard_head (heard_of u acked last)
head_of-heard_head u acked last is =
    ap head_of (heard_head-heard_of u acked last is) ∙ head_of-append (heard_head (heard_of u acked last)) (check_of u) (length-check_of u is)
