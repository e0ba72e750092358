use Rattle.std.proofs.Common.{◌≡◌, ◌+◌, length, arith}
use lib.Count.{count_trailing_zeros}
use Rattle.can_code.proofs.StepLemmas.{FrontDigits, lanes-levels}
use Rattle.can_code.proofs.digits.levels_of.Goals as goal

pub overflow_add-digits : goal.overflow_add-digits
overflow_add-digits c = omega (arith, c.places_of-recessive.ensures.small, c.places_of.ensures.small)

pub overflow_add-result : goal.overflow_add-result
overflow_add-result c = omega (arith, c.places_of-recessive.ensures.small, c.places_of.ensures.small)

pub returns-clause-within : goal.returns-clause-within
returns-clause-within c =
    let b = c.args.block.now in
    let size : length b ≡ 16 = omega arith in
    let front : FrontDigits (count_trailing_zeros 64 (c.places_of.result + c.places_of-recessive.result + 1)) b c.places_of-recessive.result =
    rw (c.places_of.ensures.places, c.places_of-recessive.ensures.places) (lanes-levels 64 b (omega (arith, size))) in
    omega (arith, front.0, size)

pub returns-clause-digits : goal.returns-clause-digits
returns-clause-digits c =
    let b = c.args.block.now in
    let size : length b ≡ 16 = omega arith in
    let front : FrontDigits (count_trailing_zeros 64 (c.places_of.result + c.places_of-recessive.result + 1)) b c.places_of-recessive.result =
    rw (c.places_of.ensures.places, c.places_of-recessive.ensures.places) (lanes-levels 64 b (omega (arith, size))) in
    front.1
