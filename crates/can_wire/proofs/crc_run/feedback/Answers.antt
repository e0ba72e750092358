use Rattle.std.proofs.Common.{◌≡◌, ◌<◌, ◌/◌, ◌^◌, ap, ◌∙◌, arith}
use mir.Val.{bool_byte}
use Rattle.std.proofs.lemmas.Nat.{xor_lt}
use Rattle.can_frame.specs.Levels.{bits_of, is_recessive}
use Rattle.can_wire.specs.Crc.{xor}
use Rattle.can_wire.proofs.LevelLemmas.{bits_of-xor}
use Rattle.can_wire.proofs.RegisterWord.{level_bits, level_byte-lt}
use Rattle.can_wire.proofs.crc_run.feedback.Goals as goal
use Rattle.can_wire.proofs.crc_run.feedback.Goals.{After-from}

level_is : (c : After-from) → c.from.result ≡ bool_byte (is_recessive c.args.level)
level_is c = c.from.ensures ∙ ap bool_byte c.is_recessive.ensures

pub returns-clause-bit : goal.returns-clause-bit
returns-clause-bit c =
    let small : c.from.result < 2 ^ 1 = omega (arith, level_is c, level_byte-lt c.args.level) in
    omega (arith, xor_lt 1 (c.args.register / 2 ^ 14) c.from.result (omega (arith, c.requires)) small)

pub returns-clause-sum : goal.returns-clause-sum
returns-clause-sum c =
    let top = bits_of 1 (c.args.register / 2 ^ 14) in
    bits_of-xor 1 (c.args.register / 2 ^ 14) c.from.result ∙ ap (λ n. xor top (bits_of 1 n)) (level_is c) ∙ ap (xor top) (level_bits c.args.level)
