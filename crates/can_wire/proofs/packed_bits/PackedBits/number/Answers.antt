use Rattle.std.proofs.Common.{◌≡◌, ℕ, List, ◌-◌, ◌/◌, ◌^◌, ◌<◌, ◌≤◌, take, length, subst, sym, ap, ◌∙◌}
use Rattle.can_frame.specs.declared.level.Level.{Level}
use Rattle.can_frame.specs.Levels.{bits_of}
use Rattle.can_wire.specs.PackedNumbers.{length-highest}
use Rattle.can_wire.proofs.PackedLemmas.{highest-number}
use Rattle.can_wire.proofs.packed_bits.PackedBits.number.Goals as goal

size : (n x : ℕ) (u : List Level) → n ≤ 118 → take n (bits_of 128 x) ≡ u → n ≡ length u
size n x u few is = sym (length-highest n x few) ∙ ap length is

pub returns-clause-small : goal.returns-clause-small
returns-clause-small c =
    let n = c.self.inside.count in
    subst (λ k. c.number.result / 2 ^ (128 - n) < 2 ^ k) (size n c.self.inside.register c.args.self.now c.self.invariant.1 c.self.view_is)
    (subst (λ x. x / 2 ^ (128 - n) < 2 ^ n) (sym c.number.ensures) (highest-number n c.self.inside.register c.self.invariant.1 c.self.invariant.2).0)

pub returns-clause-levels : goal.returns-clause-levels
returns-clause-levels c =
    let n = c.self.inside.count in
    ap (λ k. bits_of k (c.number.result / 2 ^ (128 - n))) (sym (size n c.self.inside.register c.args.self.now c.self.invariant.1 c.self.view_is)) ∙ ap (λ x. bits_of n (x / 2 ^ (128 - n))) c.number.ensures
    ∙ (highest-number n c.self.inside.register c.self.invariant.1 c.self.invariant.2).1 ∙ c.self.view_is
