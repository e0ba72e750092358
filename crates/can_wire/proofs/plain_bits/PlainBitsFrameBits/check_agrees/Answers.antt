use Rattle.std.proofs.Common.{◌≡◌, ◌-◌, ◌∙◌, ap, sym, subst, arith, length, take, drop}
use Rattle.std.proofs.lemmas.List.{length-drop}
use Rattle.std.proofs.lemmas.Bool.{eqb-true, eq-eqb}
use Rattle.can_frame.specs.Levels.{bits_of, number_from}
use Rattle.can_wire.specs.Crc.{IsCrc}
use Rattle.can_wire.specs.Layout.{check_of, head_of}
use Rattle.can_wire.proofs.PlainLemmas.{IsCrc-from_number, IsCrc-number}
use Rattle.can_wire.proofs.plain_bits.PlainBitsFrameBits.check_agrees.Goals as goal

pub returns : goal.returns
returns c =
    let u = c.args.self.now in
    let at : c.len.result - 15 ≡ length u - 15 = ap (λ t. t - 15) (c.len.ensures.value ∙ ap length c.self.view_is) in
    let levels_is = c.deref.ensures.0 ∙ c.self.view_is in
    let head : c.split_at.result.0.now ≡ head_of u = c.split_at.ensures.front ∙ ap (take (c.len.result - 15)) levels_is ∙ ap (λ k. take k u) at in
    let check : c.split_at.result.1.now ≡ check_of u = c.split_at.ensures.back ∙ ap (drop (c.len.result - 15)) levels_is ∙ ap (λ k. drop k u) at in
    let fifteen : length (check_of u) ≡ 15 = omega (arith, length-drop (length u - 15) u) in
    let number : c.number.result ≡ number_from 0 (check_of u) = c.number.ensures ∙ ap (number_from 0) check in
    let is = subst (λ b. IsCrc b (bits_of 15 c.crc15.result)) head c.crc15.ensures.divides in (
      λ equal. IsCrc-from_number (head_of u) (check_of u) c.crc15.result fifteen is (sym number ∙ eqb-true c.number.result c.from.result equal ∙ c.from.ensures),
      λ agrees.
          let only = λ (i : IsCrc (head_of u) (check_of u)). c.crc15.ensures.only (check_of u) (subst (λ b. IsCrc b (check_of u)) (sym head) i) in
          eq-eqb c.number.result c.from.result (number ∙ IsCrc-number (head_of u) (check_of u) c.crc15.result fifteen c.crc15.ensures.range only agrees ∙ sym c.from.ensures),
    )
