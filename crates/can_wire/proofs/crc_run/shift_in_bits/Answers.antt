use Rattle.std.proofs.Common.{◌≡◌, ◌+◌, ◌-◌, ◌/◌, ◌%◌, ◌^◌, ◌≤◌, sym, ap, ◌∙◌, arith}
use Rattle.std.proofs.lemmas.Nat.{one_shl}
use Rattle.can_frame.specs.Levels.{bits_of}
use Rattle.can_wire.proofs.CrcTable.{register-more}
use Rattle.can_wire.proofs.LevelLemmas.{bits_of-zero, length-bits_of}
use Rattle.can_wire.proofs.Register.{register, register-nil}
use Rattle.can_wire.proofs.crc_run.shift_in_bits.Goals as goal

pub loop-left-init : goal.loop-left-init
loop-left-init c =
    let first = bits_of 15 c.args.register in
    let upper = c.args.number / 2 ^ c.args.count in
    let none : c.args.count - c.args.count ≡ 0 = omega arith in record {
      within = omega arith;
      range = c.requires.register;
      so_far = sym (ap (λ n. register first (bits_of n upper)) none ∙ ap (register first) (bits_of-zero upper) ∙ register-nil first (length-bits_of 15 c.args.register));
    }

pub loop-left-preserved : goal.loop-left-preserved
loop-left-preserved c =
    let first = bits_of 15 c.args.register in
    let number = c.args.number in
    let few = c.min-few.result in
    let left = c.loop-left.left - few in
    let n = c.args.count - c.loop-left.left in
    let within : few ≤ c.loop-left.left = omega (arith, c.min-few.ensures) in
    let before : c.loop-left.left ≡ left + few = omega (arith, within) in
    let more : n + few ≡ c.args.count - left = omega (arith, within, c.loop-left.invariant.within) in
    let so_far = c.loop-left.invariant.so_far ∙ ap (λ p. register first (bits_of n (number / 2 ^ p))) before in
    let step = c.shift_in_few-shifted.ensures.step
    ∙ ap (λ m. register (bits_of 15 c.loop-left.shifted) (bits_of few (number / 2 ^ left % m))) (one_shl few 64 (omega (arith, c.min-few.ensures))) in record {
      within = omega (arith, c.loop-left.invariant.within);
      range = c.shift_in_few-shifted.ensures.range;
      so_far = register-more c.args.register c.loop-left.shifted _ number n few left so_far step ∙ ap (λ m. register first (bits_of m (number / 2 ^ left))) more;
    }

pub returns-clause-step : goal.returns-clause-step
returns-clause-step c =
    let first = bits_of 15 c.args.register in
    let none : c.loop-left.left ≡ 0 = omega (arith, c.loop-left-test.false) in
    let all : c.args.count - 0 ≡ c.args.count = omega arith in
    let whole : c.args.number / 2 ^ 0 ≡ c.args.number = omega arith in
    c.loop-left.invariant.so_far ∙ ap (λ p. register first (bits_of (c.args.count - p) (c.args.number / 2 ^ p))) none
    ∙ ap (λ n. register first (bits_of n (c.args.number / 2 ^ 0))) all ∙ ap (λ x. register first (bits_of c.args.count x)) whole
