-- The levels before a frame's data.
use Rattle.std.proofs.Common.{◌≡◌, ℕ, zero, suc, ◌+◌, ◌*◌, ◌≤◌, Bool, true, false, List, [], ◌∷◌, ◌++◌, length, cond, refl, sym, ◌∙◌, ap, arith, replicate, length-append, append_assoc}
use Rattle.std.specs.List.{flat_map}
use Rattle.std.proofs.lemmas.List.{append-nil, length-replicate, replicate-append-replicate}
use Rattle.can_frame.specs.declared.level.Level.{Level}
use Rattle.can_frame.specs.declared.level.Level.TheVariants.{Dominant}
use Rattle.can_frame.specs.Arbitration.{arbitration_field}
use Rattle.can_frame.specs.Ident.{Ident}
use Rattle.can_frame.specs.Levels.{bits_of, number_from}
use Rattle.can_frame.specs.Parts.{Parts}
use Rattle.can_wire.specs.FrameNumber.{header_of}
use Rattle.can_wire.specs.Heard.{heard_head, sent}
use Rattle.can_wire.specs.Layout.{data_place, levels_at}
use Rattle.can_wire.specs.Wire.{head}
use Rattle.can_wire.proofs.DivisionLemmas.{none}
use Rattle.can_wire.proofs.LayoutHead.{heard_head-sent, length-heard_head}
use Rattle.can_wire.proofs.LayoutNumbers.{bits_of-number_from}
use Rattle.can_wire.proofs.LayoutPlaces.{filled_whole}
use Rattle.can_wire.proofs.LevelLemmas.{bits_of-none}
use Rattle.can_longest.specs.Longest.{with_bytes}

-- the frame's levels before its data, and its data
pub head_is : (f : Parts) → head f ≡ header_of f ++ flat_map (bits_of 8) f.bytes
unfolding header_of head arbitration_field
head_is f =
    let field = arbitration_field f in
    let kept = cond f.id.extended (Dominant ∷ Dominant ∷ []) (Dominant ∷ []) in
    let rest = flat_map (bits_of 8) f.bytes in
    sym (ap (λ t. Dominant ∷ t) (append_assoc field (kept ++ bits_of 4 f.dlc) rest ∙ ap (λ t. field ++ t) (append_assoc kept (bits_of 4 f.dlc) rest)))

-- the levels before the data are those of the parts without data
pub header_of-bare : (id : Ident) (remote : Bool) (dlc : ℕ) (bytes : List ℕ) → header_of (with_bytes id remote dlc bytes) ≡ header_of (with_bytes id remote dlc [])
unfolding header_of arbitration_field
header_of-bare id remote dlc bytes = refl

-- zeros are dominant
zeros : (n : ℕ) → flat_map (bits_of 8) (replicate n 0) ≡ none (8 * n)
zeros zero = refl
zeros (suc n) =
    let more : 8 + 8 * n ≡ 8 * suc n = omega arith in
    ap (λ t. t ++ flat_map (bits_of 8) (replicate n 0)) (bits_of-none 8) ∙ ap (λ t. none 8 ++ t) (zeros n) ∙ replicate-append-replicate 8 (8 * n) Dominant ∙ ap none more

-- There are 19 of them, or 39.
header_of-sized : (id : Ident) (remote : Bool) (dlc : ℕ) → length (header_of (with_bytes id remote dlc [])) ≡ data_place id.extended
header_of-sized id remote dlc =
    let f = with_bytes id remote dlc [] in
    omega (arith, length-heard_head (sent f), ap length (heard_head-sent f ∙ head_is f ∙ append-nil (header_of f)))

pub header_of-few : (id : Ident) (remote : Bool) (dlc : ℕ) → length (header_of (with_bytes id remote dlc [])) ≤ 39
header_of-few id remote dlc = omega (arith, header_of-sized id remote dlc, by id.extended)
  where
    by : (extended : Bool) → data_place extended ≤ 39
    by true = omega arith
    by false = omega arith

pub header_of-some : (id : Ident) (remote : Bool) (dlc : ℕ) → 1 ≤ length (header_of (with_bytes id remote dlc []))
header_of-some id remote dlc = omega (arith, header_of-sized id remote dlc)

-- the levels of the frame whose n bytes of data are dominant, to their end
module _ (id : Ident) (remote : Bool) (dlc n : ℕ) (f : Parts) (f_is : f ≡ with_bytes id remote dlc (replicate n 0)) (u : List Level) (u_is : u ≡ heard_head (sent f)) where
  abbrev header : List Level
  header = header_of (with_bytes id remote dlc [])

  pub levels_are : u ≡ header ++ none (8 * n)
  levels_are =
      let d = with_bytes id remote dlc (replicate n 0) in
      u_is ∙ heard_head-sent f ∙ ap head f_is ∙ head_is d ∙ ap (λ t. t ++ flat_map (bits_of 8) (replicate n 0)) (header_of-bare id remote dlc (replicate n 0)) ∙ ap (λ t. header ++ t) (zeros n)

  pub levels_count : length u ≡ length header + 8 * length f.bytes
  levels_count =
      let bytes : length f.bytes ≡ n = ap (λ g. length g.bytes) f_is ∙ length-replicate n 0 in
      omega (arith, ap length levels_are, length-append header (none (8 * n)), length-replicate (8 * n) Dominant, bytes)

  pub header_number : (count number : ℕ) → count ≡ length header → number ≡ number_from 0 (levels_at u 0 count) → bits_of count number ≡ header
  header_number count number count_is number_is =
      let first = ap (λ t. levels_at t 0 count) levels_are ∙ filled_whole count header (none (8 * n)) (sym count_is) in
      ap (bits_of count) (number_is ∙ ap (number_from 0) first) ∙ bits_of-number_from count 0 header (sym count_is)
