use Rattle.std.proofs.Common.{◌≡◌, ℕ, Bool, false, ◌*◌, ◌%◌, ◌^◌, take, drop, ap, ◌∙◌, arith}
use mir.Val.{bool_byte}
use Rattle.can_frame.specs.Levels.{bits_of}
use Rattle.can_wire.proofs.LevelLemmas.{bits_of-none}
use Rattle.can_wire.proofs.packed_bits.PackedBitsFrameBits.start.Goals as goal

clear : (register bit : ℕ) (recessive : Bool) → register ≡ bit * 2 ^ 127 % 2 ^ 128 → bit ≡ bool_byte recessive → recessive ≡ false → register ≡ 0
clear register bit recessive is of_bit of_level = is ∙ ap (λ b. b * 2 ^ 127 % 2 ^ 128) (of_bit ∙ ap bool_byte of_level)

pub invariant_of-result : goal.invariant_of-result
invariant_of-result c =
    let none = clear c.new.result c.from-first.result c.is_recessive.result c.new.ensures c.from-first.ensures c.is_recessive.ensures in
    (omega arith, omega arith, omega (arith, none), ap (λ x. drop 1 (bits_of 128 x)) none ∙ ap (drop 1) (bits_of-none 128))

pub returns : goal.returns
returns c =
    let none = clear c.new.result c.from-first.result c.is_recessive.result c.new.ensures c.from-first.ensures c.is_recessive.ensures in
    ap (λ x. take 1 (bits_of 128 x)) none ∙ ap (take 1) (bits_of-none 128)
