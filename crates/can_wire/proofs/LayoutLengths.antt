-- The frame length that a list of levels determines: its bounds, and that a list has at most one
-- complete prefix.
use Rattle.std.proofs.Common.{◌≡◌, ◌≢◌, ℕ, ◌+◌, ◌-◌, ◌*◌, ◌≤◌, Bool, true, false, List, [], ◌∷◌, ◌++◌, length, replicate, ◌∙◌, ap, arith, length-append, inl, inr}
use Rattle.std.proofs.lemmas.List.{nil_from_length, length-replicate}
use Rattle.std.proofs.lemmas.Bool.{cases_lt}
use Rattle.can_frame.specs.declared.level.Level.{Level}
use Rattle.can_frame.specs.declared.level.Level.TheVariants.{Dominant}
use Rattle.can_frame.specs.Levels.{is_recessive, number_from}
use Rattle.can_frame.specs.Parts.{byte_count}
use Rattle.can_frame.specs.Stored.{byte_count_le}
use Rattle.can_wire.specs.Layout.{level_at, levels_at, extended_of, rtr_place, data_place, remote_of, dlc_of, frame_len, IsComplete}
use Rattle.can_wire.proofs.LayoutPlaces.{level_at-append, levels_at-append, level_at-dominant, levels_at-dominant}

-- the length of a frame of this kind with this RTR bit and data length code
abbrev length_from : Bool → Level → List Level → ℕ
length_from extended rtr code = data_place extended + 8 * byte_count (is_recessive rtr) (number_from 0 code) + 15

-- the same with the RTR bit and the data length code of u
abbrev length_by : Bool → List Level → ℕ
length_by extended u = length_from extended (level_at u (rtr_place extended)) (levels_at u (rtr_place extended + 3) 4)

pub rtr_place_ge : (extended : Bool) → 12 ≤ rtr_place extended
rtr_place_ge true = omega arith
rtr_place_ge false = omega arith

pub rtr_place_le : (extended : Bool) → rtr_place extended ≤ 32
rtr_place_le true = omega arith
rtr_place_le false = omega arith

-- a frame without data is shortest
pub frame_len_least : (u : List Level) → data_place (extended_of u) + 15 ≤ frame_len u
unfolding frame_len
frame_len_least u = omega arith

-- a frame with eight bytes is longest
frame_len_most : (u : List Level) → frame_len u ≤ data_place (extended_of u) + 79
unfolding frame_len
frame_len_most u = let few = byte_count_le (remote_of u) (dlc_of u) in omega (arith, few)

-- the shortest frame
pub frame_len_ge : (u : List Level) → 34 ≤ frame_len u
frame_len_ge u = omega (arith, frame_len_least u, rtr_place_ge (extended_of u))

-- the longest frame
pub frame_len_le : (u : List Level) → frame_len u ≤ 118
frame_len_le u = omega (arith, frame_len_most u, rtr_place_le (extended_of u))

extended_of-append : (u w : List Level) → 14 ≤ length u → extended_of (u ++ w) ≡ extended_of u
extended_of-append u w long = ap is_recessive (level_at-append u w 13 (omega arith))

length_by-append : (extended : Bool) (u w : List Level) → data_place extended ≤ length u → length_by extended (u ++ w) ≡ length_by extended u
length_by-append extended u w long =
    let r = rtr_place extended in
    ap (λ t. length_from extended t (levels_at (u ++ w) (r + 3) 4)) (level_at-append u w r (omega arith))
    ∙ ap (length_from extended (level_at u r)) (levels_at-append u w (r + 3) 4 (omega arith))

-- after the data length code no level changes the length
pub frame_len-append : (u w : List Level) → data_place (extended_of u) ≤ length u → frame_len (u ++ w) ≡ frame_len u
unfolding frame_len
frame_len-append u w long =
    let past_ide : 14 ≤ length u = omega (arith, rtr_place_ge (extended_of u)) in
    ap (λ t. length_by t (u ++ w)) (extended_of-append u w past_ide) ∙ length_by-append (extended_of u) u w long

-- dominant levels after a list never change the length
pub frame_len-dominant : (u : List Level) (k : ℕ) → frame_len (u ++ replicate k Dominant) ≡ frame_len u
unfolding frame_len
frame_len-dominant u k =
    let more = u ++ replicate k Dominant in
    let kind = extended_of u in
    let r = rtr_place kind in
    ap (λ t. length_by (is_recessive t) more) (level_at-dominant u k 13)
    ∙ ap (λ t. length_from kind t (levels_at more (r + 3) 4)) (level_at-dominant u k r)
    ∙ ap (length_from kind (level_at u r)) (levels_at-dominant u k (r + 3) 4)

-- a list that is shorter than the length it determines stays within it with one more level
pub frame_len-grows : (u : List Level) (x : Level) → length u ≤ frame_len u → length u ≢ frame_len u → length (u ++ x ∷ []) ≤ frame_len (u ++ x ∷ [])
frame_len-grows u x within partial =
    let other : length u ≢ frame_len u = partial in
    let size : length (u ++ x ∷ []) ≡ length u + 1 = length-append u (x ∷ []) in
    let place = data_place (extended_of u) in
    elim (cases_lt (length u) 14) [
      | inl few ↦ omega (arith, size, frame_len_ge (u ++ x ∷ []))
      | inr ide ↦ elim (cases_lt (length u) place) [
        | inl some ↦
            let same_place : data_place (extended_of (u ++ x ∷ [])) ≡ place = ap data_place (extended_of-append u (x ∷ []) ide) in
            omega (arith, size, same_place, frame_len_least (u ++ x ∷ []))
        | inr told ↦ omega (arith, size, other, frame_len-append u (x ∷ []) told)
      ]
    ]

-- a list that is as long as the length it determines, or longer, determines that length whatever
-- follows
pub frame_len-settled : (u w : List Level) → frame_len u ≤ length u → frame_len (u ++ w) ≡ frame_len u
frame_len-settled u w long = frame_len-append u w (omega (arith, frame_len_least u))

-- what is complete does not go on
pub IsComplete-ends : (u x : List Level) → IsComplete u → IsComplete (u ++ x) → x ≡ []
IsComplete-ends u x h k = nil_from_length x (omega (arith, length-append u x, h.whole, k.whole, frame_len-settled u x (omega (arith, h.whole))))

-- and this is enough: dominant levels complete it
pub IsComplete-completed : (u : List Level) → level_at u 0 ≡ Dominant → length u ≤ frame_len u → IsComplete (u ++ replicate (frame_len u - length u) Dominant)
IsComplete-completed u start within =
    let k = frame_len u - length u in
    record {
      start = level_at-dominant u k 0 ∙ start;
      whole = omega (arith, length-append u (replicate k Dominant), length-replicate k Dominant, frame_len-dominant u k);
    }
