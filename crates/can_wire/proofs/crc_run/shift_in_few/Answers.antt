use Rattle.std.proofs.Common.{◌≡◌, ◌-◌, ◌*◌, ◌/◌, ◌%◌, ◌^◌, ◌<◌, ◌≤◌, get_or, ap, sym, ◌∙◌, arith, subst, ℕ}
use Rattle.std.specs.Prelude.{bit_and, bit_xor}
use Rattle.std.specs.Int.Bits.{mask_lt}
use Rattle.std.proofs.lemmas.Nat.{xor_lt}
use Rattle.can_frame.specs.Levels.{bits_of}
use Rattle.can_wire.specs.declared.crc_table.TheConstants.{CRC_OF_PLACES}
use Rattle.can_wire.proofs.CrcTable.{crc_of_byte, crc_of_byte-lt, entry_is, place-within, register-few}
use Rattle.can_wire.proofs.crc_run.shift_in_few.Goals as goal

-- what is read from the table
read : (k r number at : ℕ) → k ≤ 8 → r < 2 ^ 15 → number < 2 ^ k → at ≡ bit_xor (r / 2 ^ (15 - k)) number
    → get_or CRC_OF_PLACES at 0 ≡ crc_of_byte (bit_xor (r / 2 ^ (15 - k)) number)
read k r number at few small fits e = ap (λ i. get_or CRC_OF_PLACES i 0) e ∙ entry_is (bit_xor (r / 2 ^ (15 - k)) number) (place-within k r number few small fits)

pub bounds-from : goal.bounds-from
bounds-from c = omega (arith, c.from.ensures, place-within c.args.count c.args.register c.args.number c.requires.few c.requires.register c.requires.number)

pub returns-clause-range : goal.returns-clause-range
returns-clause-range c =
    let k = c.args.count in
    let r = c.args.register in
    let entry = read k r c.args.number c.from.result c.requires.few c.requires.register c.requires.number c.from.ensures in
    let small : get_or CRC_OF_PLACES c.from.result 0 < 2 ^ 15 = subst (λ t. t < 2 ^ 15) (sym entry) (crc_of_byte-lt (bit_xor (r / 2 ^ (15 - k)) c.args.number)) in
    xor_lt 15 _ _ (mask_lt (r * 2 ^ k % 2 ^ 16) 15) small

pub returns-clause-step : goal.returns-clause-step
returns-clause-step c =
    let k = c.args.count in
    let r = c.args.register in
    let entry = read k r c.args.number c.from.result c.requires.few c.requires.register c.requires.number c.from.ensures in
    ap (λ t. bits_of 15 (bit_xor (bit_and (r * 2 ^ k % 2 ^ 16) 0x7fff) t)) entry ∙ register-few k r c.args.number c.requires.few c.requires.register c.requires.number
