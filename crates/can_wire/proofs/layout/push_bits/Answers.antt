use Rattle.std.proofs.Common.{◌%◌, ◌++◌, length, ap, ◌∙◌, arith, length-append}
use Rattle.std.proofs.lemmas.Nat.{one_shl}
use Rattle.can_frame.specs.Levels.{bits_of}
use Rattle.can_wire.proofs.LevelLemmas.{bits_of-mod, length-bits_of}
use Rattle.can_wire.proofs.layout.push_bits.Goals as goal

pub returns-clause-levels : goal.returns-clause-levels
returns-clause-levels g c =
    let n = c.args.count in
    let x = c.args.value in
    c.append.ensures
    ∙ ap (λ t. g.B.FrameBits.levels c.args.levels.now ++ t) (ap (bits_of n) c.from.ensures ∙ ap (λ m. bits_of n (x % m)) (one_shl n 32 c.requires.width) ∙ bits_of-mod n n x (omega arith))

pub returns-clause-len : goal.returns-clause-len
returns-clause-len g c =
    let n = c.args.count in
    let y = c.from.result in
    omega (arith, ap length c.append.ensures, length-append (g.B.FrameBits.levels c.args.levels.now) (bits_of n y), length-bits_of n y)
