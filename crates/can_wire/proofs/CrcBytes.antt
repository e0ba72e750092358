-- The CRC sequence of a number's levels by its bytes.
use Rattle.std.proofs.Common.{◌≡◌, ℕ, zero, suc, ◌+◌, ◌*◌, ◌/◌, ◌%◌, ◌^◌, ◌<◌, ◌≤◌, List, ◌++◌, length, get_or, sym, ◌∙◌, ap, arith, length-append}
use Rattle.std.specs.Prelude.{bit_xor}
use Rattle.std.specs.Int.{byte_at, bytes_low_first, to_le_bytes, w128}
use Rattle.std.proofs.lemmas.List.{length-replicate, replicate-append-replicate}
use Rattle.can_frame.specs.declared.level.Level.{Level}
use Rattle.can_frame.specs.declared.level.Level.TheVariants.{Dominant}
use Rattle.can_frame.specs.Levels.{bits_of}
use Rattle.can_frame.proofs.DataNumber.{power-256}
use Rattle.can_wire.specs.Crc.{xor, reduced, crc_of}
use Rattle.can_wire.specs.declared.crc_table.TheConstants.{CRC_OF_PLACES}
use Rattle.can_wire.proofs.LevelLemmas.{length-bits_of, bits_of-append, bits_of-mod, bits_of-xor}
use Rattle.can_wire.proofs.XorLemmas.{xor_assoc, xor_comm, xor_zeros}
use Rattle.can_wire.proofs.DivisionLemmas.{none, reduced-xor}
use Rattle.can_wire.proofs.Register.{register, crc_of-on}
use Rattle.can_wire.proofs.CrcTable.{place_entry}

-- ---- the CRC sequence of one list after another

-- dominant bits of the length of a list and its zeros add nothing to them
none-added : (b : List Level) → xor (none (length b) ++ none 15) (b ++ none 15) ≡ b ++ none 15
none-added b =
    let k = length b in
    let fits : k + 15 ≤ length (b ++ none 15) = omega (arith, length-append b (none 15)) in
    ap (λ t. xor t (b ++ none 15)) (replicate-append-replicate k 15 Dominant) ∙ xor_comm (none (k + 15)) (b ++ none 15) ∙ xor_zeros (b ++ none 15) (k + 15) fits

-- a register goes on over levels as over dominant ones, and their own CRC sequence is added
register-split : (r b : List Level) → register r b ≡ xor (register r (none (length b))) (crc_of b)
unfolding crc_of
register-split r b =
    let k = length b in
    let size : length (none k) ≡ k = length-replicate k Dominant in
    let zeros = none k ++ none 15 in
    let levels = b ++ none 15 in
    sym (ap (λ n. xor (reduced n (xor r zeros)) (reduced k levels)) size ∙ sym (reduced-xor k (xor r zeros) levels)
    ∙ ap (reduced k) (xor_assoc r zeros levels ∙ ap (xor r) (none-added b)))

-- that of two lists is the sum of that of the first, followed by dominant levels, and that of the
-- second
crc_of-append : (k : ℕ) (a b : List Level) → length b ≡ k → crc_of (a ++ b) ≡ xor (crc_of (a ++ none k)) (crc_of b)
crc_of-append k a b size =
    crc_of-on a b ∙ register-split (crc_of a) b ∙ ap (λ t. xor t (crc_of b)) (sym (crc_of-on a (none (length b)))) ∙ ap (λ n. xor (crc_of (a ++ none n)) (crc_of b)) size

-- ---- a byte more

pub crc_of-byte_more : (place number check byte : ℕ) → place < 15 → byte ≡ number / 2 ^ (8 * place) % 256 → bits_of 15 check ≡ crc_of (bits_of (8 * place) number)
    → bits_of 15 (bit_xor check (get_or CRC_OF_PLACES (256 * place + byte) 0)) ≡ crc_of (bits_of (8 * (place + 1)) number)
crc_of-byte_more place number check byte within is so_far =
    let k = 8 * place in
    let e = get_or CRC_OF_PLACES (256 * place + byte) 0 in
    let low = bits_of k number in
    let more : 8 * (place + 1) ≡ 8 + k = omega arith in
    let upper : bits_of 8 byte ≡ bits_of 8 (number / 2 ^ k) = ap (bits_of 8) is ∙ bits_of-mod 8 8 (number / 2 ^ k) (omega arith) in
    bits_of-xor 15 check e ∙ ap (λ t. xor t (bits_of 15 e)) so_far ∙ ap (xor (crc_of low)) (place_entry place byte within (omega (arith, is)) ∙ ap (λ t. crc_of (t ++ none k)) upper)
    ∙ xor_comm (crc_of low) (crc_of (bits_of 8 (number / 2 ^ k) ++ none k)) ∙ sym (crc_of-append k (bits_of 8 (number / 2 ^ k)) low (length-bits_of k number))
    ∙ ap crc_of (sym (bits_of-append 8 k number) ∙ ap (λ n. bits_of n number) (sym more))

-- ---- the bytes of a number

pub byte_at-place : (i n : ℕ) → byte_at i n ≡ n / 2 ^ (8 * i) % 256
byte_at-place zero n = omega arith
byte_at-place (suc i) n = ap (λ t. n / t % 256) (power-256 (suc i))

bytes_from : (first count i n : ℕ) → i < count → get_or (bytes_low_first first count n) i 0 ≡ byte_at (first + i) n
bytes_from first zero i n h = absurd (omega arith)
bytes_from first (suc count) zero n h = ap (λ k. byte_at k n) (let e : first ≡ first + 0 = omega arith in e)
bytes_from first (suc count) (suc i) n h = bytes_from (suc first) count i n (omega arith) ∙ ap (λ k. byte_at k n) (let e : suc first + i ≡ first + suc i = omega arith in e)

pub byte_is : (place number : ℕ) → place < 16 → get_or (to_le_bytes w128 number) place 0 ≡ number / 2 ^ (8 * place) % 256
byte_is place number within = bytes_from 0 16 place number within ∙ ap (λ k. byte_at k number) (let e : 0 + place ≡ place = omega arith in e) ∙ byte_at-place place number
