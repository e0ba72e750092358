use Rattle.std.proofs.Common.{◌≡◌, [], ◌∷◌, sym, ap, ◌∙◌, arith}
use mir.Val.{bool_byte}
use Rattle.can_frame.specs.declared.level.Level.TheVariants.{Dominant}
use Rattle.can_frame.specs.Levels.{bits_of}
use Rattle.can_wire.proofs.CheckRuns.{IsCrc-same}
use Rattle.can_wire.proofs.LevelLemmas.{bits_of-none}
use Rattle.can_wire.proofs.checked_bits.CheckedBitsFrameBits.start.Goals as goal

pub invariant_of-result : goal.invariant_of-result
invariant_of-result c =
    let none : c.new.result ≡ 0 = c.new.ensures ∙ c.from.ensures ∙ ap bool_byte c.is_recessive.ensures in
    let levels : bits_of 1 c.new.result ≡ Dominant ∷ [] = ap (bits_of 1) none ∙ bits_of-none 1 in
    (omega arith, omega arith, omega (arith, none), IsCrc-same (sym levels) (c.push.ensures.check [] c.new-run.ensures.check))

pub returns : goal.returns
returns c = ap (bits_of 1) (c.new.ensures ∙ c.from.ensures ∙ ap bool_byte c.is_recessive.ensures) ∙ bits_of-none 1
