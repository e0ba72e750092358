-- The head of a frame as received: its length, and its levels if all are received as sent.
use Rattle.std.proofs.Common.{◌≡◌, ◌+◌, ◌*◌, ◌≤◌, ◌/◌, ◌^◌, Bool, true, false, cond, List, [], ◌∷◌, ◌++◌, length, refl, ◌∙◌, ap, arith, append_assoc, length-append}
use Rattle.std.specs.List.{flat_map}
use Rattle.can_frame.specs.declared.level.Level.{Level}
use Rattle.can_frame.specs.declared.level.Level.TheVariants.{Dominant, Recessive}
use Rattle.can_frame.specs.Levels.{bits_of, level_from}
use Rattle.can_frame.specs.Parts.{Parts, IsFrame}
use Rattle.can_frame.specs.Stored.{byte_count_le}
use Rattle.can_frame.specs.Arbitration.{standard_field, extended_with}
use Rattle.can_wire.specs.Wire.{data_field, head}
use Rattle.can_wire.specs.Heard.{HeardParts, IsHeard, sent, heard_head}
use Rattle.can_wire.specs.Layout.{level_at, data_place}
use Rattle.can_wire.proofs.LayoutNumbers.{length-bits_of}
use Rattle.can_wire.proofs.LayoutBytes.{length-bytes}

-- the levels between the SOF and r0 in a standard frame
abbrev standard_format : HeardParts → List Level
standard_format h = bits_of 11 h.frame.id.raw ++ level_from h.frame.remote ∷ Dominant ∷ []

-- the same in an extended frame
abbrev extended_format : HeardParts → List Level
extended_format h = bits_of 11 (h.frame.id.raw / 2 ^ 18) ++ h.srr ∷ Recessive ∷ (bits_of 18 h.frame.id.raw ++ level_from h.frame.remote ∷ h.r1 ∷ [])

-- a head, in the pieces of which it is built
module _ (h : HeardParts) where
  -- the head of a frame of this kind
  abbrev head_by : Bool → List Level
  head_by extended =
      Dominant ∷ (cond extended (extended_with h.srr h.frame.id.raw h.frame.remote) (standard_field h.frame.id.raw h.frame.remote)
      ++ (cond extended (h.r1 ∷ h.r0 ∷ []) (h.r0 ∷ []) ++ data_field h.frame))

  pub heard_head-standard : h.frame.id.extended ≡ false → heard_head h ≡ Dominant ∷ (standard_format h ++ h.r0 ∷ data_field h.frame)
  unfolding heard_head
  heard_head-standard kind = ap head_by kind

  pub heard_head-extended : h.frame.id.extended ≡ true → heard_head h ≡ Dominant ∷ (extended_format h ++ h.r0 ∷ data_field h.frame)
  unfolding heard_head
  heard_head-extended kind = ap head_by kind ∙ regrouped
    where
      regrouped : head_by true ≡ Dominant ∷ (extended_format h ++ h.r0 ∷ data_field h.frame)
      regrouped = simp append_assoc

-- if SRR and reserved bits are received as sent, the head is the one that is sent
pub heard_head-sent : (f : Parts) → heard_head (sent f) ≡ head f
unfolding heard_head head
heard_head-sent f = refl

-- a frame is heard as it is sent
pub IsHeard-sent : (f : Parts) → IsFrame f → IsHeard (sent f)
IsHeard-sent f is = record { frame = is; srr = λ standard. refl; r1 = λ standard. refl }

-- the SOF is dominant
pub heard_head-start : (h : HeardParts) (c : List Level) → level_at (heard_head h ++ c) 0 ≡ Dominant
unfolding heard_head
heard_head-start h c = refl

length-data_field : (f : Parts) → length (data_field f) ≡ 4 + 8 * length f.bytes
length-data_field f = omega (arith, length-append (bits_of 4 f.dlc) (flat_map (bits_of 8) f.bytes), length-bits_of 4 f.dlc, length-bytes f.bytes)

-- the length of a head, from the start of frame to the end of the data
pub length-heard_head : (h : HeardParts) → length (heard_head h) ≡ data_place h.frame.id.extended + 8 * length h.frame.bytes
unfolding heard_head
length-heard_head h = by_kind h.frame.id.extended
  where
    f : Parts
    f = h.frame

    by_kind : (extended : Bool) → length (head_by h extended) ≡ data_place extended + 8 * length f.bytes
    by_kind true =
        let upper = bits_of 11 (f.id.raw / 2 ^ 18) in
        let lower = bits_of 18 f.id.raw in
        let rtr = level_from f.remote ∷ [] in
        omega (
          arith,
          length-append (upper ++ h.srr ∷ Recessive ∷ (lower ++ rtr)) (h.r1 ∷ h.r0 ∷ data_field f),
          length-append upper (h.srr ∷ Recessive ∷ (lower ++ rtr)),
          length-bits_of 11 (f.id.raw / 2 ^ 18),
          length-append lower rtr,
          length-bits_of 18 f.id.raw,
          length-data_field f,
        )
    by_kind false =
        let identifier = bits_of 11 f.id.raw in
        let rest = level_from f.remote ∷ Dominant ∷ [] in
        omega (
          arith,
          length-append (identifier ++ rest) (h.r0 ∷ data_field f),
          length-append identifier rest,
          length-bits_of 11 f.id.raw,
          length-data_field f,
        )

-- no head is longer than one with eight bytes of data
pub length-heard_head-le : (h : HeardParts) → IsFrame h.frame → length (heard_head h) ≤ cond h.frame.id.extended 103 83
length-heard_head-le h is =
    let few : length h.frame.bytes ≤ 8 = omega (arith, is.count, byte_count_le h.frame.remote h.frame.dlc) in
    by_kind h.frame.id.extended (length-heard_head h) few
  where
    by_kind : (extended : Bool) → length (heard_head h) ≡ data_place extended + 8 * length h.frame.bytes → length h.frame.bytes ≤ 8 → length (heard_head h) ≤ cond extended 103 83
    by_kind true size few = omega arith
    by_kind false size few = omega arith
