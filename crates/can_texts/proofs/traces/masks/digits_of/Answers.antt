use Rattle.std.proofs.Common.{◌≡◌, ◌+◌, ◌||◌, ◌^◌, eqb, length, ap, ◌∙◌, arith}
use Rattle.can_texts.proofs.BlockMasks.{mask-or, mask-small, other_digits}
use Rattle.can_texts.proofs.traces.masks.digits_of.Goals as goal

pub returns-clause-places : goal.returns-clause-places
returns-clause-places c =
    (λ i. c.places_of.ensures.places i + c.places_of-2.ensures.places i)
    ∙ mask-or (λ x. eqb x 48) (λ x. eqb x 49) (λ x. other_digits 48 49 x (λ e. omega (arith, e))) c.args.block.now

pub returns-clause-small : goal.returns-clause-small
returns-clause-small c =
    let block = c.args.block.now in
    let size : length block ≡ 16 = omega arith in
    omega (
      arith,
      c.places_of.ensures.places,
      c.places_of-2.ensures.places,
      mask-or (λ x. eqb x 48) (λ x. eqb x 49) (λ x. other_digits 48 49 x (λ e. omega (arith, e))) block,
      mask-small (λ x. eqb x 48 || eqb x 49) block,
      ap (λ n. 2 ^ n) size,
    )
