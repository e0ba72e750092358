-- The maximum length of frames that differ only in their data, by the maximum that follows their header.
use Rattle.std.proofs.Common.{◌≡◌, ℕ, zero, ◌+◌, ◌*◌, ◌<◌, ◌≤◌, Bool, true, false, List, [], ◌++◌, length, drop, cond, refl, sym, ◌∙◌, ap, arith, length-append, append_assoc}
use Rattle.std.specs.List.{flat_map}
use Rattle.std.proofs.lemmas.List.{append-nil, drop_all}
use Rattle.can_frame.specs.declared.level.Level.{Level}
use Rattle.can_frame.specs.declared.level.Level.TheVariants.{Dominant, Recessive}
use Rattle.can_frame.specs.Ident.{Ident, IsIdent}
use Rattle.can_frame.specs.Levels.{bits_of}
use Rattle.can_frame.specs.Parts.{Parts, byte_count}
use Rattle.can_wire.specs.Crc.{xor, crc_of}
use Rattle.can_wire.specs.FrameNumber.{header_of}
use Rattle.can_wire.specs.Layout.{bytes_from}
use Rattle.can_wire.specs.Stuffing.{stuffed, stuffed_from}
use Rattle.can_wire.specs.Wire.{head, tail, unstuffed, stuffed_part, wire}
use Rattle.can_wire.proofs.DivisionLemmas.{none}
use Rattle.can_wire.proofs.LayoutBytes.{length-bytes, length-bytes_from, bytes_from-small, levels-bytes_from}
use Rattle.can_wire.proofs.WireLemmas.{length-wire-le}
use Rattle.can_longest.specs.Longest.{IsFrameOf, IsLongestWire, with_bytes}
use Rattle.can_longest.specs.ToCome.{to_come, most}
use Rattle.can_longest.proofs.Greatest.{most-none_longer, most-one_as_long}
use Rattle.can_longest.proofs.CheckSums.{crc_of-parts}
use Rattle.can_longest.proofs.Headers.{head_is, header_of-bare}

header_of-same : (id : Ident) (remote : Bool) (dlc : ℕ) (f : Parts) → IsFrameOf id remote dlc f → header_of f ≡ header_of (with_bytes id remote dlc [])
header_of-same id remote dlc f is =
    header_of-bare f.id f.remote f.dlc f.bytes ∙ ap (λ i. header_of (with_bytes i f.remote f.dlc [])) is.same_id
    ∙ ap (λ r. header_of (with_bytes id r f.dlc [])) is.same_kind ∙ ap (λ n. header_of (with_bytes id remote n [])) is.same_dlc

-- A frame on the bus is a stuffed head with its CRC sequence, and ten levels of tail.
length-wire : (f : Parts) → length (wire f) ≡ length (stuffed_from Dominant 0 (head f ++ crc_of (head f))) + 10
unfolding stuffed_part unstuffed stuffed
length-wire f = length-append (stuffed_part f) (tail Dominant Recessive)

-- This header has this number of levels, the last of them ends such a run, and the CRC sequence is this one if only
-- dominant data follow.
module _ (header : List Level) (levels : ℕ) (last : Level) (run : ℕ) (check : List Level)
    (behind : (rest : List Level) → length (stuffed_from Dominant 0 (header ++ rest)) ≡ levels + length (stuffed_from last run rest)) where
  -- then these are the levels of the stuffed part
  length-stuffed_part : (d : List Level) → check ≡ crc_of (header ++ none (length d)) → length (stuffed_from Dominant 0 ((header ++ d) ++ crc_of (header ++ d))) ≡ levels + to_come last run check d
  unfolding to_come
  length-stuffed_part d check_is =
      ap (λ t. length (stuffed_from Dominant 0 t)) (append_assoc header d (crc_of (header ++ d))
      ∙ ap (λ t. header ++ (d ++ t)) (crc_of-parts header d ∙ ap (λ t. xor t (crc_of d)) (sym check_is)))
      ∙ behind (d ++ xor check (crc_of d))

module _ (id : Ident) (remote : Bool) (dlc levels : ℕ) (last : Level) (run : ℕ) (check : List Level) (fifteen : length check ≡ 15) (is_id : IsIdent id) (is_dlc : dlc < 16)
    (behind : (rest : List Level) → length (stuffed_from Dominant 0 (header_of (with_bytes id remote dlc []) ++ rest)) ≡ levels + length (stuffed_from last run rest))
    (check_is : check ≡ crc_of (header_of (with_bytes id remote dlc []) ++ none (8 * byte_count remote dlc))) where
  abbrev header : List Level
  header = header_of (with_bytes id remote dlc [])

  abbrev count : ℕ
  count = byte_count remote dlc

  abbrev data_of : Parts → List Level
  data_of f = flat_map (bits_of 8) f.bytes

  bits : (f : Parts) → IsFrameOf id remote dlc f → length (data_of f) ≡ 8 * count
  bits f is = length-bytes f.bytes ∙ ap (λ n. 8 * n) (is.is_frame.count ∙ ap (λ r. byte_count r f.dlc) is.same_kind ∙ ap (byte_count remote) is.same_dlc)

  long : (f : Parts) → IsFrameOf id remote dlc f → length (wire f) ≡ levels + to_come last run check (data_of f) + 10
  long f is =
      let head_so : head f ≡ header ++ data_of f = head_is f ∙ ap (λ t. t ++ data_of f) (header_of-same id remote dlc f is) in
      length-wire f ∙ ap (λ t. length (stuffed_from Dominant 0 (t ++ crc_of t)) + 10) head_so
      ∙ ap (λ n. n + 10) (length-stuffed_part header levels last run check behind (data_of f) (check_is ∙ ap (λ n. crc_of (header ++ none n)) (sym (bits f is))))

  -- the frame whose data are these levels
  made : List Level → Parts
  made d = with_bytes id remote dlc (bytes_from count d)

  unfold_made : (d : List Level) → IsFrameOf id remote dlc (made d)
  unfolding made
  unfold_made d = record {
    is_frame = record { id = is_id; dlc = is_dlc; count = length-bytes_from count d; small = bytes_from-small count d };
    same_id = refl;
    same_kind = refl;
    same_dlc = refl;
  }

  data_made : (d : List Level) → length d ≡ 8 * count → data_of (made d) ≡ d
  unfolding made
  data_made d size =
      let bytes = flat_map (bits_of 8) (bytes_from count d) in
      let rest : drop (8 * count) d ≡ [] = drop_all (8 * count) d (omega (arith, size)) in
      sym (levels-bytes_from count d (omega (arith, size)) ∙ ap (λ t. bytes ++ t) rest ∙ append-nil bytes)

  pub longest-is : IsLongestWire id remote dlc (levels + most (8 * count) last run check + 10)
  longest-is = record {
    none_longer = λ f is.
        omega (arith, long f is, most-none_longer (8 * count) last run check (data_of f) fifteen (bits f is));
    one_as_long =
        let r = most-one_as_long (8 * count) last run check fifteen in
        let is = unfold_made r.0 in
        (made r.0, is, long (made r.0) is ∙ ap (λ t. levels + to_come last run check t + 10) (data_made r.0 r.1) ∙ ap (λ n. levels + n + 10) r.2);
  }

-- the wire of these data
pub length-wire_of : (id : Ident) (remote : Bool) (dlc : ℕ) (bytes : List ℕ) (levels : ℕ) (last : Level) (run : ℕ) (check : List Level)
    → let header = header_of (with_bytes id remote dlc []) in let d = flat_map (bits_of 8) bytes in
    ((rest : List Level) → length (stuffed_from Dominant 0 (header ++ (d ++ rest))) ≡ levels + length (stuffed_from last run rest))
    → check ≡ crc_of (header ++ d) → length (wire (with_bytes id remote dlc bytes)) ≡ levels + most zero last run check + 10
unfolding most
length-wire_of id remote dlc bytes levels last run check behind check_is =
    let f = with_bytes id remote dlc bytes in
    let header = header_of (with_bytes id remote dlc []) in
    let d = flat_map (bits_of 8) bytes in
    let head_so : head f ≡ header ++ d = head_is f ∙ ap (λ t. t ++ d) (header_of-bare id remote dlc bytes) in
    length-wire f ∙ ap (λ t. length (stuffed_from Dominant 0 (t ++ crc_of t)) + 10) head_so
    ∙ ap (λ t. length (stuffed_from Dominant 0 t) + 10) (append_assoc header d (crc_of (header ++ d)) ∙ ap (λ t. header ++ (d ++ t)) (sym check_is))
    ∙ ap (λ n. n + 10) (behind check)

-- no wire is longer than that of the longest frame of all
pub longest-few : (id : Ident) (remote : Bool) (dlc n : ℕ) → IsLongestWire id remote dlc n → n ≤ 157
longest-few id remote dlc n is =
    let one = is.one_as_long in
    let f = one.0 in
    omega (arith, one.2, by f.id.extended (length (wire f)) (length-wire-le f one.1.is_frame))
  where
    by : (extended : Bool) (n : ℕ) → n ≤ cond extended 157 132 → n ≤ 157
    by true n h = omega arith
    by false n h = omega arith

-- there is one longest wire
pub longest-one : (id : Ident) (remote : Bool) (dlc m n : ℕ) → IsLongestWire id remote dlc m → IsLongestWire id remote dlc n → m ≡ n
longest-one id remote dlc m n a b =
    let x = a.one_as_long in
    let y = b.one_as_long in
    omega (arith, b.none_longer x.0 x.1, x.2, a.none_longer y.0 y.1, y.2)
