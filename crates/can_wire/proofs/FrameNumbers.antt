-- The unstuffed levels of a frame as it is sent, part by part, as the bits of numbers.
use Rattle.std.proofs.Common.{◌≡◌, ℕ, zero, suc, ◌+◌, ◌-◌, ◌*◌, ◌/◌, ◌%◌, ◌^◌, ◌<◌, ◌≤◌, Bool, true, false, cond, List, [], ◌∷◌, ◌++◌, length, take, replicate, get_or, refl, sym, ◌∙◌, ap, subst, arith, append_assoc, length-append}
use Rattle.std.specs.Int.{bytes_high_first, from_be_bytes, w64}
use Rattle.std.specs.List.{flat_map}
use Rattle.std.proofs.Math.Nat.{div-lt_iff_lt-mul}
use Rattle.std.proofs.Math.Pow.{pow-add, pow_mono}
use Rattle.std.proofs.lemmas.Grind.{flat_map-append}
use Rattle.std.proofs.lemmas.List.{length-replicate, take_at}
use Rattle.std.proofs.lemmas.Nat.{be_bytes_8, pow_pos, shr-shr}
use mir.Val.{bool_byte}
use Rattle.can_frame.specs.declared.level.Level.TheVariants.{Dominant, Recessive}
use Rattle.can_frame.specs.Levels.{bits_of, level_from, level_of}
use Rattle.can_frame.specs.Ident.{Ident, IsIdent, ident_count}
use Rattle.can_frame.specs.Parts.{Parts, IsFrame}
use Rattle.can_frame.specs.Stored.{byte_count_le}
use Rattle.can_frame.specs.Arbitration.{arbitration_field}
use Rattle.can_frame.proofs.DataNumber.{filled-small}
use Rattle.can_wire.specs.Crc.{crc_of}
use Rattle.can_wire.specs.Wire.{head, unstuffed}
use Rattle.can_wire.specs.FrameNumber.{control_of, header_of}
use Rattle.can_wire.proofs.LevelLemmas.{bits_of-append, bits_of-mod, length-bits_of}
use Rattle.can_wire.proofs.LayoutBytes.{length-bytes}
use Rattle.can_wire.proofs.PackedLemmas.{bits_of-moved, joined-small}
use Rattle.can_wire.proofs.CrcBytes.{byte_at-place}
use Rattle.can_wire.proofs.RegisterWord.{crc_of-wider}

-- ---- the levels before the data

remote_bit : (remote : Bool) → bits_of 1 (bool_byte remote) ≡ level_from remote ∷ []
unfolding bits_of
remote_bit true = refl
remote_bit false = refl

-- a number of fewer bits begins with dominant ones
one_more : (n x : ℕ) → x < 2 ^ n → bits_of (n + 1) x ≡ Dominant ∷ bits_of n x
unfolding bits_of
one_more n x small =
    let up : n + 1 ≡ suc n = omega arith in
    let none : x / 2 ^ n % 2 ≡ 0 = (let e : x / 2 ^ n ≡ 0 = below in omega (arith, e)) in
    ap (λ m. bits_of m x) up ∙ ap (λ b. level_of b ∷ bits_of n x) none
  where
    below : x / 2 ^ n ≡ 0
    below = (let less : x / 2 ^ n < 1 = (div-lt_iff_lt-mul (pow_pos n)).1 (omega (arith, small)) in omega (arith, less))

pub control_bits : (remote : Bool) (f : Parts) (bit dlc : ℕ) → bit ≡ bool_byte remote → remote ≡ f.remote → dlc ≡ f.dlc → dlc < 16
    → bits_of 7 (bit * 2 ^ 6 % 2 ^ 64 + dlc) ≡ control_of f
control_bits remote f bit dlc bit_is remote_is dlc_is few =
    bits_of-moved 64 1 6 bit dlc (omega arith) (omega (arith, few))
    ∙ ap (λ t. t ++ bits_of 6 dlc) (ap (bits_of 1) bit_is ∙ remote_bit remote ∙ ap (λ b. level_from b ∷ []) remote_is)
    ∙ ap (λ t. level_from f.remote ∷ t) (one_more 5 dlc (omega (arith, few)) ∙ ap (λ t. Dominant ∷ t) (one_more 4 dlc (omega (arith, few))))
    ∙ ap (λ d. level_from f.remote ∷ Dominant ∷ Dominant ∷ bits_of 4 d) dlc_is

-- the two formats
standard_is : (f : Parts) → f.id.extended ≡ false → header_of f ≡ (Dominant ∷ bits_of 11 f.id.raw) ++ control_of f
unfolding header_of arbitration_field
standard_is f kind =
    let more = bits_of 4 f.dlc in
    let raw = f.id.raw in
    let remote = level_from f.remote in
    let upper = bits_of 11 (raw / 2 ^ 18) in
    (λ i. Dominant ∷ (cond (kind i) (upper ++ Recessive ∷ Recessive ∷ (bits_of 18 raw ++ remote ∷ [])) (bits_of 11 raw ++ remote ∷ Dominant ∷ []) ++ (cond (kind i) (Dominant ∷ Dominant ∷ []) (Dominant ∷ []) ++ more)))
    ∙ ap (λ t. Dominant ∷ t) (append_assoc (bits_of 11 raw) (remote ∷ Dominant ∷ []) (Dominant ∷ more))

extended_is : (f : Parts) → f.id.extended ≡ true → header_of f ≡ (Dominant ∷ (bits_of 11 (f.id.raw / 2 ^ 18) ++ Recessive ∷ Recessive ∷ bits_of 18 f.id.raw)) ++ control_of f
unfolding header_of arbitration_field
extended_is f kind =
    let more = bits_of 4 f.dlc in
    let raw = f.id.raw in
    let remote = level_from f.remote in
    let upper = bits_of 11 (raw / 2 ^ 18) in
    let lower = bits_of 18 raw in
    (λ i. Dominant ∷ (cond (kind i) (upper ++ Recessive ∷ Recessive ∷ (lower ++ remote ∷ [])) (bits_of 11 raw ++ remote ∷ Dominant ∷ []) ++ (cond (kind i) (Dominant ∷ Dominant ∷ []) (Dominant ∷ []) ++ more)))
    ∙ ap (λ t. Dominant ∷ t) (
    append_assoc upper (Recessive ∷ Recessive ∷ (lower ++ remote ∷ [])) (Dominant ∷ Dominant ∷ more)
    ∙ ap (λ t. upper ++ Recessive ∷ Recessive ∷ t) (append_assoc lower (remote ∷ []) (Dominant ∷ Dominant ∷ more))
    ∙ sym (append_assoc upper (Recessive ∷ Recessive ∷ lower) (remote ∷ Dominant ∷ Dominant ∷ more))
    )

-- an identifier is within its limit
pub raw_small : (id own : Ident) (extended : Bool) → id ≡ own → own.extended ≡ extended → IsIdent id → own.raw < ident_count extended
raw_small id own extended same kind is = subst (λ e. own.raw < ident_count e) kind (subst IsIdent same is)

pub standard_bits : (f : Parts) (raw control : ℕ) → f.id.extended ≡ false → raw ≡ f.id.raw → raw < 2 ^ 11 → bits_of 7 control ≡ control_of f → control < 2 ^ 7
    → bits_of 19 (raw * 2 ^ 7 % 2 ^ 64 + control) ≡ header_of f
standard_bits f raw control kind raw_is small bits few =
    bits_of-moved 64 12 7 raw control (omega arith) few ∙ ap (λ t. bits_of 12 raw ++ t) bits ∙ ap (λ t. t ++ control_of f) (one_more 11 raw small)
    ∙ ap (λ r. (Dominant ∷ bits_of 11 r) ++ control_of f) raw_is ∙ sym (standard_is f kind)

two_recessive : bits_of 2 3 ≡ Recessive ∷ Recessive ∷ []
unfolding bits_of
two_recessive = refl

pub extended_bits : (f : Parts) (raw control : ℕ) → f.id.extended ≡ true → raw ≡ f.id.raw → raw < 2 ^ 29 → bits_of 7 control ≡ control_of f → control < 2 ^ 7
    → bits_of 39 (((raw / 2 ^ 18 * 2 ^ 2 % 2 ^ 64 + 3) * 2 ^ 18 % 2 ^ 64 + raw % 2 ^ 18) * 2 ^ 7 % 2 ^ 64 + control) ≡ header_of f
extended_bits f raw control kind raw_is small bits few =
    let upper = raw / 2 ^ 18 in
    let base = upper * 2 ^ 2 % 2 ^ 64 + 3 in
    let identifier = base * 2 ^ 18 % 2 ^ 64 + raw % 2 ^ 18 in
    let eleven : upper < 2 ^ 11 = omega (arith, small) in
    let first : bits_of 14 base ≡ Dominant ∷ (bits_of 11 upper ++ Recessive ∷ Recessive ∷ []) =
    bits_of-moved 64 12 2 upper 3 (omega arith) (omega arith) ∙ ap (λ t. bits_of 12 upper ++ t) two_recessive ∙ ap (λ t. t ++ Recessive ∷ Recessive ∷ []) (one_more 11 upper eleven) in
    let second : bits_of 32 identifier ≡ Dominant ∷ (bits_of 11 upper ++ Recessive ∷ Recessive ∷ bits_of 18 raw) =
    bits_of-moved 64 14 18 base (raw % 2 ^ 18) (omega arith) (omega arith) ∙ ap (λ t. bits_of 14 base ++ t) (bits_of-mod 18 18 raw (omega arith)) ∙ ap (λ t. t ++ bits_of 18 raw) first
    ∙ ap (λ t. Dominant ∷ t) (append_assoc (bits_of 11 upper) (Recessive ∷ Recessive ∷ []) (bits_of 18 raw)) in
    bits_of-moved 64 32 7 identifier control (omega arith) few ∙ ap (λ t. bits_of 32 identifier ++ t) bits ∙ ap (λ t. t ++ control_of f) second
    ∙ ap (λ r. (Dominant ∷ (bits_of 11 (r / 2 ^ 18) ++ Recessive ∷ Recessive ∷ bits_of 18 r)) ++ control_of f) raw_is ∙ sym (extended_is f kind)

-- ---- the data

high_first : (k n : ℕ) → flat_map (bits_of 8) (bytes_high_first k n) ≡ bits_of (8 * k) n
unfolding bits_of
high_first zero n = refl
high_first (suc k) n =
    let more : 8 + 8 * k ≡ 8 * suc k = omega arith in
    ap (λ b. bits_of 8 b ++ flat_map (bits_of 8) (bytes_high_first k n)) (byte_at-place k n) ∙ ap (λ t. bits_of 8 (n / 2 ^ (8 * k) % 256) ++ t) (high_first k n)
    ∙ ap (λ t. t ++ bits_of (8 * k) n) (bits_of-mod 8 8 (n / 2 ^ (8 * k)) (omega arith)) ∙ sym (bits_of-append 8 (8 * k) n) ∙ ap (λ m. bits_of m n) more

-- a frame's bytes in the highest of eight
module _ (f : Parts) (is : IsFrame f) (octets : List ℕ) (n : ℕ) (filled : octets ≡ f.bytes ++ replicate (8 - length f.bytes) 0) (n_is : n ≡ from_be_bytes w64 octets) where
  few : length f.bytes ≤ 8
  few = omega (arith, is.count, byte_count_le f.remote f.dlc)

  all_bits : bits_of 64 n ≡ flat_map (bits_of 8) f.bytes ++ flat_map (bits_of 8) (replicate (8 - length f.bytes) 0)
  all_bits =
      let rest : List ℕ = replicate (8 - length f.bytes) 0 in
      let eight : length octets ≡ 8 = ap length filled ∙ length-append f.bytes rest ∙ ap (λ k. length f.bytes + k) (length-replicate (8 - length f.bytes) 0) ∙ (let e : length f.bytes + (8 - length f.bytes) ≡ 8 = omega (arith, few) in e) in
      let small : (i : ℕ) → get_or octets i 0 < 256 = λ i. subst (λ t. get_or t i 0 < 256) (sym filled) (filled-small f.bytes (8 - length f.bytes) i is.small) in
      sym (high_first 8 n) ∙ ap (flat_map (bits_of 8)) (be_bytes_8 octets n eight small n_is ∙ filled) ∙ flat_map-append (bits_of 8) f.bytes rest

  pub data_bits : (k half : ℕ) → k ≡ length f.bytes → half ≡ 4 * (8 - k) → bits_of (8 * length f.bytes) (n / 2 ^ half / 2 ^ half) ≡ flat_map (bits_of 8) f.bytes
  data_bits k half k_is half_is =
      let own = length f.bytes in
      let behind = half + half in
      let whole : 64 ≡ 8 * own + behind = omega (arith, few, k_is, half_is) in
      let rest = flat_map (bits_of 8) (replicate (8 - own) 0) in
      let upper = bits_of (8 * own) (n / 2 ^ behind) in
      let parts : upper ++ bits_of behind n ≡ flat_map (bits_of 8) f.bytes ++ rest = sym (ap (λ m. bits_of m n) whole ∙ bits_of-append (8 * own) behind n) ∙ all_bits in
      ap (bits_of (8 * own)) (shr-shr n half half)
      ∙ sym (take_at upper (bits_of behind n) (8 * own) (length-bits_of (8 * own) (n / 2 ^ behind))) ∙ ap (take (8 * own)) parts
      ∙ take_at (flat_map (bits_of 8) f.bytes) rest (8 * own) (length-bytes f.bytes)

  pub data_small : (k half : ℕ) → n < 2 ^ 64 → k ≡ length f.bytes → half ≡ 4 * (8 - k) → n / 2 ^ half / 2 ^ half < 2 ^ (8 * length f.bytes)
  data_small k half small k_is half_is =
      let own = length f.bytes in
      let behind = half + half in
      let whole : 8 * own + behind ≡ 64 = omega (arith, few, k_is, half_is) in
      let power : 2 ^ (8 * own) * 2 ^ behind ≡ 2 ^ 64 = sym (pow-add 2 (8 * own) behind) ∙ ap (λ e. 2 ^ e) whole in
      let below : n / 2 ^ behind < 2 ^ (8 * own) = (div-lt_iff_lt-mul (pow_pos behind)).1 (omega (arith, small, power)) in
      omega (arith, below, shr-shr n half half)

-- ---- the whole

head_is : (f : Parts) → header_of f ++ flat_map (bits_of 8) f.bytes ≡ head f
unfolding header_of head arbitration_field
head_is f =
    let field = arbitration_field f in
    let kept = cond f.id.extended (Dominant ∷ Dominant ∷ []) (Dominant ∷ []) in
    let rest = flat_map (bits_of 8) f.bytes in
    ap (λ t. Dominant ∷ t) (append_assoc field (kept ++ bits_of 4 f.dlc) rest ∙ ap (λ t. field ++ t) (append_assoc kept (bits_of 4 f.dlc) rest))

module _ (f : Parts) (is : IsFrame f) (count k number lower : ℕ) (few : count ≤ 39) (k_is : k ≡ length f.bytes) (small : number < 2 ^ count) (lower-small : lower < 2 ^ (8 * length f.bytes)) where
  bytes : k ≤ 8
  bytes = omega (arith, k_is, is.count, byte_count_le f.remote f.dlc)

  own_small : lower < 2 ^ (8 * k)
  own_small = subst (λ m. lower < 2 ^ (8 * m)) (sym k_is) lower-small

  abbrev joined : ℕ
  joined = number * 2 ^ (8 * k) % 2 ^ 128 + lower

  joined_small : joined < 2 ^ (count + 8 * k)
  joined_small = joined-small 128 count (8 * k) number lower small own_small (omega (arith, bytes, few))

  within : count + 8 * k ≤ 120
  within = omega (arith, bytes, few)

  pub head_fits : joined < 2 ^ 120
  head_fits =
      let power : 2 ^ (count + 8 * k) ≤ 2 ^ 120 = pow_mono within in
      omega (arith, joined_small, power)

  pub whole_small : (check : ℕ) → check < 2 ^ 15 → joined * 2 ^ 15 % 2 ^ 128 + check < 2 ^ (count + 8 * k + 15)
  whole_small check check_small = joined-small 128 (count + 8 * k) 15 joined check joined_small check_small (omega (arith, bytes, few))

  pub whole_few : count + 8 * k + 15 ≤ 118
  whole_few = omega (arith, bytes, few)

  pub whole_bits : (check : ℕ) → check < 2 ^ 15 → bits_of count number ≡ header_of f → bits_of (8 * length f.bytes) lower ≡ flat_map (bits_of 8) f.bytes
      → bits_of 15 check ≡ crc_of (bits_of 120 joined) → bits_of (count + 8 * k + 15) (joined * 2 ^ 15 % 2 ^ 128 + check) ≡ unstuffed f
  unfolding unstuffed
  whole_bits check check_small header bits check_is =
      let own : bits_of (8 * k) lower ≡ flat_map (bits_of 8) f.bytes = ap (λ m. bits_of (8 * m) lower) k_is ∙ bits in
      let first : bits_of (count + 8 * k) joined ≡ head f =
      bits_of-moved 128 count (8 * k) number lower (omega (arith, within)) own_small ∙ ap (λ t. t ++ bits_of (8 * k) lower) header ∙ ap (λ t. header_of f ++ t) own ∙ head_is f in
      bits_of-moved 128 (count + 8 * k) 15 joined check (omega (arith, whole_few)) check_small ∙ ap (λ t. t ++ bits_of 15 check) first
      ∙ ap (λ t. head f ++ t) (check_is ∙ crc_of-wider (count + 8 * k) 120 joined within joined_small ∙ ap crc_of first)
