use Rattle.std.proofs.Common.{◌≤◌, ◌^◌, length, ap, ◌∙◌, arith}
use Rattle.std.proofs.Math.Pow.{pow_mono}
use Rattle.can_wire.specs.Crc.{crc_of}
use Rattle.can_wire.proofs.RegisterWord.{crc_of-wider}
use Rattle.can_wire.proofs.packed_bits.PackedBitsFrameBits.check.Goals as goal

pub crc_of_number-requires : goal.crc_of_number-requires
crc_of_number-requires c =
    let few : length c.args.self.now ≤ 120 = omega (arith, c.number.ensures.few) in
    let power : 2 ^ length c.args.self.now ≤ 2 ^ 120 = pow_mono few in
    omega (arith, c.number.ensures.small, power)

pub returns-clause-computed : goal.returns-clause-computed
returns-clause-computed c =
    c.crc_of_number.ensures.check ∙ crc_of-wider (length c.args.self.now) 120 c.number.result (omega (arith, c.number.ensures.few)) c.number.ensures.small ∙ ap crc_of c.number.ensures.levels
