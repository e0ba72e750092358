use Rattle.std.proofs.Common.{◌≡◌, ◌+◌, ◌-◌, ◌*◌, ◌<◌, ◌^◌, [], ◌∷◌, ◌++◌, ◌∙◌, ap, sym, subst, arith, length, take, drop, length-append}
use Rattle.std.proofs.lemmas.List.{length-drop}
use Rattle.std.proofs.lemmas.Bool.{eqb-true, eq-eqb}
use mir.Val.{bool_byte}
use Rattle.can_frame.specs.Levels.{bits_of, is_recessive, number_from}
use Rattle.can_wire.specs.Crc.{IsCrc}
use Rattle.can_wire.specs.Layout.{check_of, head_of}
use Rattle.can_wire.proofs.LayoutNumbers.{number_from-lt}
use Rattle.can_wire.proofs.PlainLemmas.{IsCrc-from_number, IsCrc-number, check_of-further, head_of-further, number_from-further}
use Rattle.can_wire.proofs.RegisterWord.{level_byte-lt}
use Rattle.can_wire.proofs.plain_bits.PlainBitsFrameBits.agrees_with.Goals as goal
use Rattle.can_wire.proofs.plain_bits.PlainBitsFrameBits.agrees_with.Goals.{After-number}

-- the fourteen last levels are apart
place : (c : After-number) → c.len.result - 14 ≡ length c.args.self.now - 14
place c = ap (λ t. t - 14) (c.len.ensures.value ∙ ap length c.self.view_is)

last : (c : After-number) → c.split_at.result.1.now ≡ drop (length c.args.self.now - 14) c.args.self.now
last c = c.split_at.ensures.back ∙ ap (drop (c.len.result - 14)) (c.deref.ensures.0 ∙ c.self.view_is) ∙ ap (λ k. drop k c.args.self.now) (place c)

small : (c : After-number) → c.number.result < 2 ^ 14
small c =
    let fourteen : length c.split_at.result.1.now ≡ 14 = omega (arith, ap length (last c), length-drop (length c.args.self.now - 14) c.args.self.now, c.requires) in
    omega (arith, c.number.ensures, number_from-lt c.split_at.result.1.now, ap (λ n. 2 ^ n) fourteen)

pub overflow_mul-result : goal.overflow_mul-result
overflow_mul-result c = omega (arith, small c)

pub overflow_add-result : goal.overflow_add-result
overflow_add-result c = omega (arith, small c.before.before, c.from.ensures, level_byte-lt c.args.level, ap bool_byte c.is_recessive.ensures)

pub returns : goal.returns
returns c =
    let u = c.args.self.now in
    let level = c.args.level in
    let more = u ++ level ∷ [] in
    let head : c.split_at.result.0.now ≡ head_of more =
    c.split_at.ensures.front ∙ ap (take (c.len.result - 14)) (c.deref.ensures.0 ∙ c.self.view_is) ∙ ap (λ k. take k u) (place c.before.before.before.before) ∙ sym (head_of-further u level c.requires) in
    let check : c.split_at.result.1.now ++ level ∷ [] ≡ check_of more = ap (λ t. t ++ level ∷ []) (last c.before.before.before.before) ∙ sym (check_of-further u level c.requires) in
    let fifteen : length (check_of more) ≡ 15 = omega (arith, length-drop (length more - 15) more, length-append u (level ∷ []), c.requires) in
    let bit : c.from.result ≡ bool_byte (is_recessive level) = c.from.ensures ∙ ap bool_byte c.is_recessive.ensures in
    let number : 2 * c.number.result + c.from.result ≡ number_from 0 (check_of more) =
    ap (λ n. 2 * n + c.from.result) c.number.ensures ∙ ap (λ b. 2 * number_from 0 c.split_at.result.1.now + b) bit
    ∙ sym (number_from-further c.split_at.result.1.now level) ∙ ap (number_from 0) check in
    let is = subst (λ b. IsCrc b (bits_of 15 c.crc15.result)) head c.crc15.ensures.divides in (
      λ equal. IsCrc-from_number (head_of more) (check_of more) c.crc15.result fifteen is (sym number ∙ eqb-true _ c.from-2.result equal ∙ c.from-2.ensures),
      λ agrees.
          let only = λ (i : IsCrc (head_of more) (check_of more)). c.crc15.ensures.only (check_of more) (subst (λ b. IsCrc b (check_of more)) (sym head) i) in
          eq-eqb _ c.from-2.result (number ∙ IsCrc-number (head_of more) (check_of more) c.crc15.result fifteen c.crc15.ensures.range only agrees ∙ sym c.from-2.ensures),
    )
