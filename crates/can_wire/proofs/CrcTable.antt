-- The table of what each byte adds to a CRC sequence at its place; up to eight levels in one step, by its first row.
use Rattle.std.proofs.Common.{◌≡◌, ℕ, zero, suc, ◌+◌, ◌-◌, ◌*◌, ◌/◌, ◌%◌, ◌^◌, ◌<◌, ◌≤◌, List, [], ◌++◌, length, map, take, get_or, refl, sym, ◌∙◌, ap, subst, arith}
use Rattle.std.specs.Prelude.{bit_xor}
use Rattle.std.specs.Int.Bits.{mask_lt}
use Rattle.std.specs.List.{range_with_len}
use Rattle.std.proofs.Math.Nat.{div-lt_iff_lt-mul}
use Rattle.std.proofs.Math.Pow.{pow-add, pow_mono}
use Rattle.std.proofs.lemmas.Nat.{pow_pos, shr-shr, xor_lt}
use Rattle.std.proofs.lemmas.List.{get_or-append_right, get_or-map, length-map}
use Rattle.std.proofs.lemmas.List.FromFn.{get_or-map-range_with_len}
use Rattle.std.proofs.Math.ListN.{get_or-append}
use Rattle.can_frame.specs.declared.level.Level.TheVariants.{Dominant}
use Rattle.can_frame.specs.Levels.{bits_of, number_from}
use Rattle.can_wire.specs.Crc.{crc_of}
use Rattle.can_wire.specs.declared.crc_table.TheConstants.{CRC_OF_PLACES}
use Rattle.can_wire.proofs.LevelLemmas.{length-bits_of, bits_of-append, bits_of-mod, bits_of-xor, bits_of-number_from, number_from-lt}
use Rattle.can_wire.proofs.XorLemmas.{xor_zeros}
use Rattle.can_wire.proofs.DivisionLemmas.{length-crc_of, none}
use Rattle.can_wire.proofs.Register.{register, crc_of-on, register-nil, register-append}
use Rattle.can_wire.proofs.RegisterWord.{moved, crc_of-wider, register-entry, register-fed}

-- the CRC sequence of the eight bits of a byte, as a number
abbrev pub crc_of_byte : ℕ → ℕ
crc_of_byte byte = number_from 0 (crc_of (bits_of 8 byte))

pub crc_of_byte-lt : (byte : ℕ) → crc_of_byte byte < 2 ^ 15
crc_of_byte-lt byte =
    let power : 2 ^ length (crc_of (bits_of 8 byte)) ≡ 2 ^ 15 = ap (λ n. 2 ^ n) (length-crc_of (bits_of 8 byte)) in
    omega (arith, number_from-lt (crc_of (bits_of 8 byte)), power)

pub bits_of-crc_of_byte : (byte : ℕ) → bits_of 15 (crc_of_byte byte) ≡ crc_of (bits_of 8 byte)
bits_of-crc_of_byte byte =
    let check = crc_of (bits_of 8 byte) in
    ap (λ n. bits_of n (number_from 0 check)) (sym (length-crc_of (bits_of 8 byte))) ∙ bits_of-number_from 0 check

-- ---- the register as a number, over dominant levels

one_further : ℕ → ℕ
one_further r = bit_xor (moved 1 r) (r / 2 ^ 14 % 2 * 0x4599)

one_further-lt : (r : ℕ) → one_further r < 2 ^ 15
unfolding one_further
one_further-lt r = xor_lt 15 _ _ (mask_lt (r * 2 ^ 1 % 2 ^ 16) 15) (omega arith)

one_further-register : (r : ℕ) → bits_of 15 (one_further r) ≡ register (bits_of 15 r) (none 1)
unfolding one_further
one_further-register r =
    let bit : bits_of 1 (r / 2 ^ 14 % 2) ≡ bits_of 1 (r / 2 ^ 14) = bits_of-mod 1 1 (r / 2 ^ 14) (omega arith) in
    let fits : 1 ≤ length (bits_of 1 (r / 2 ^ 14)) = omega (arith, length-bits_of 1 (r / 2 ^ 14)) in
    register-fed r (r / 2 ^ 14 % 2) Dominant (omega arith) (bit ∙ sym (xor_zeros (bits_of 1 (r / 2 ^ 14)) 1 fits))

-- k of them
further : ℕ → ℕ → ℕ
further zero r = r
further (suc k) r = further k (one_further r)

further-add : (j k r : ℕ) → further (j + k) r ≡ further k (further j r)
unfolding further
further-add zero k r = ap (λ n. further n r) (let e : 0 + k ≡ k = omega arith in e)
further-add (suc j) k r = ap (λ n. further n r) (let e : suc j + k ≡ suc (j + k) = omega arith in e) ∙ further-add j k (one_further r)

further-lt : (k r : ℕ) → r < 2 ^ 15 → further k r < 2 ^ 15
unfolding further
further-lt zero r small = small
further-lt (suc k) r small = further-lt k (one_further r) (one_further-lt r)

further-register : (k r : ℕ) → bits_of 15 (further k r) ≡ register (bits_of 15 r) (none k)
unfolding further
further-register zero r = sym (register-nil (bits_of 15 r) (length-bits_of 15 r))
further-register (suc k) r =
    further-register k (one_further r) ∙ ap (λ t. register t (none k)) (one_further-register r) ∙ sym (register-append (bits_of 15 r) (none 1) (none k))

-- ---- the table

-- a row and the following ones, each from the one before by eight dominant levels
rows : ℕ → List ℕ → List ℕ
rows zero row = []
rows (suc n) row = row ++ rows n (map (further 8) row)

-- the first row, by computing each of its entries
bytes_are : take 256 CRC_OF_PLACES ≡ map crc_of_byte (range_with_len 0 256)
unfolding crc_of bits_of
bytes_are = refl

-- the table, by computing each of its rows
table_is : CRC_OF_PLACES ≡ rows 15 (take 256 CRC_OF_PLACES)
unfolding rows further one_further
table_is = refl

row_is : (n place byte : ℕ) (row : List ℕ) → length row ≡ 256 → place < n → byte < 256 → get_or (rows n row) (256 * place + byte) 0 ≡ further (8 * place) (get_or row byte 0)
unfolding rows further
row_is zero place byte row size within fits = absurd (omega arith)
row_is (suc n) zero byte row size within fits =
    let at : 256 * 0 + byte ≡ byte = omega arith in
    ap (λ i. get_or (row ++ rows n (map (further 8) row)) i 0) at ∙ get_or-append row (rows n (map (further 8) row)) 0 byte (omega arith)
row_is (suc n) (suc place) byte row size within fits =
    let rest = map (further 8) row in
    let at : 256 * suc place + byte - 256 ≡ 256 * place + byte = omega arith in
    let more : 8 + 8 * place ≡ 8 * suc place = omega arith in
    let long : length rest ≡ 256 = length-map row (further 8) ∙ size in
    get_or-append_right row (rows n rest) 256 (256 * suc place + byte) 0 size (omega arith) ∙ ap (λ i. get_or (rows n rest) i 0) at
    ∙ row_is n place byte rest long (omega arith) fits ∙ ap (further (8 * place)) (get_or-map (further 8) row byte 0 0 (omega arith))
    ∙ sym (further-add 8 (8 * place) (get_or row byte 0)) ∙ ap (λ k. further k (get_or row byte 0)) more

read : (place byte : ℕ) → place < 15 → byte < 256 → get_or CRC_OF_PLACES (256 * place + byte) 0 ≡ further (8 * place) (crc_of_byte byte)
read place byte within fits =
    let row = take 256 CRC_OF_PLACES in
    let first : get_or row byte 0 ≡ crc_of_byte byte = ap (λ t. get_or t byte 0) bytes_are ∙ get_or-map-range_with_len crc_of_byte 0 256 byte byte 0 fits (omega arith) in
    ap (λ t. get_or t (256 * place + byte) 0) table_is ∙ row_is 15 place byte row refl within fits ∙ ap (further (8 * place)) first

pub entry_is : (byte : ℕ) → byte < 256 → get_or CRC_OF_PLACES byte 0 ≡ crc_of_byte byte
unfolding further
entry_is byte fits = ap (λ i. get_or CRC_OF_PLACES i 0) (let at : byte ≡ 256 * 0 + byte = omega arith in at) ∙ read 0 byte (omega arith) fits

pub place_entry-lt : (place byte : ℕ) → place < 15 → byte < 256 → get_or CRC_OF_PLACES (256 * place + byte) 0 < 2 ^ 15
place_entry-lt place byte within fits = subst (λ e. e < 2 ^ 15) (sym (read place byte within fits)) (further-lt (8 * place) (crc_of_byte byte) (crc_of_byte-lt byte))

-- an entry is the CRC sequence of its byte followed by dominant levels
pub place_entry : (place byte : ℕ) → place < 15 → byte < 256 → bits_of 15 (get_or CRC_OF_PLACES (256 * place + byte) 0) ≡ crc_of (bits_of 8 byte ++ none (8 * place))
place_entry place byte within fits =
    ap (bits_of 15) (read place byte within fits) ∙ further-register (8 * place) (crc_of_byte byte)
    ∙ ap (λ r. register r (none (8 * place))) (bits_of-crc_of_byte byte) ∙ sym (crc_of-on (bits_of 8 byte) (none (8 * place)))

-- ---- up to eight levels in one step

-- the index in the table if up to eight levels go into a register
pub place-lt : (k r number : ℕ) → k ≤ 8 → r < 2 ^ 15 → number < 2 ^ k → bit_xor (r / 2 ^ (15 - k)) number < 2 ^ k
place-lt k r number few small fits =
    let size : k + (15 - k) ≡ 15 = omega (arith, few) in
    let power : 2 ^ k * 2 ^ (15 - k) ≡ 2 ^ 15 = sym (pow-add 2 k (15 - k)) ∙ ap (λ e. 2 ^ e) size in
    xor_lt k (r / 2 ^ (15 - k)) number ((div-lt_iff_lt-mul (pow_pos (15 - k))).1 (omega (arith, small, power))) fits

pub place-within : (k r number : ℕ) → k ≤ 8 → r < 2 ^ 15 → number < 2 ^ k → bit_xor (r / 2 ^ (15 - k)) number < 256
place-within k r number few small fits =
    let power : 2 ^ k ≤ 2 ^ 8 = pow_mono few in
    omega (arith, place-lt k r number few small fits, power)

-- these levels in one step, as code takes it
pub register-few : (k r number : ℕ) → k ≤ 8 → r < 2 ^ 15 → number < 2 ^ k
    → bits_of 15 (bit_xor (moved k r) (crc_of_byte (bit_xor (r / 2 ^ (15 - k)) number))) ≡ register (bits_of 15 r) (bits_of k number)
register-few k r number few small fits =
    let n = 15 - k in
    let place = bit_xor (r / 2 ^ n) number in
    let size : n + k ≡ 15 = omega (arith, few) in
    let entry = bits_of-crc_of_byte place ∙ crc_of-wider k 8 place few (place-lt k r number few small fits) ∙ ap crc_of (bits_of-xor k (r / 2 ^ n) number) in
    register-entry n k r (crc_of_byte place) (bits_of k number) size (length-bits_of k number) entry

-- k more levels of a number, after the n before them
pub register-more : (start r next number n k left : ℕ) → bits_of 15 r ≡ register (bits_of 15 start) (bits_of n (number / 2 ^ (left + k)))
    → bits_of 15 next ≡ register (bits_of 15 r) (bits_of k (number / 2 ^ left % 2 ^ k)) → bits_of 15 next ≡ register (bits_of 15 start) (bits_of (n + k) (number / 2 ^ left))
register-more start r next number n k left so_far step =
    let x = number / 2 ^ left in
    let first = bits_of 15 start in
    step ∙ ap (register (bits_of 15 r)) (bits_of-mod k k x (omega arith)) ∙ ap (λ t. register t (bits_of k x)) (so_far ∙ ap (λ y. register first (bits_of n y)) (sym (shr-shr number left k)))
    ∙ sym (register-append first (bits_of n (x / 2 ^ k)) (bits_of k x)) ∙ ap (register first) (sym (bits_of-append n k x))
