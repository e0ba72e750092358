use Rattle.std.proofs.Common.{ap, length, arith}
use Rattle.std.proofs.lemmas.List.{length-map, length-take}
use Rattle.can_frame.specs.Levels.{digit_of}
use Rattle.can_texts.proofs.DigitFronts.{HasLevels-more}
use Rattle.can_texts.proofs.DigitLemmas.{IsFirstBadDigit-at}
use Rattle.can_texts.proofs.lines.vector.check_digits.Goals as goal

pub returns-in_default-clause-err : goal.returns-in_default-clause-err
returns-in_default-clause-err c =
    let digits = c.args.digits.now in
    let has = c.loop-place.invariant in
    let place = c.loop-place.place in
    IsFirstBadDigit-at digits has.levels place c.loop-place-test.true has.so_far has.within
    (λ level is. omega (arith, has.within, c.if-place-lt-MOST_LEVELS.false, ap length has.so_far, length-map has.levels digit_of, length-take place digits, c.loop-place-test.true))

pub returns-in_default-2-clause-err : goal.returns-in_default-2-clause-err
returns-in_default-2-clause-err c =
    let has = c.loop-place.invariant in
    IsFirstBadDigit-at c.args.digits.now has.levels c.loop-place.place c.loop-place-test.true has.so_far has.within (λ level is. absurd (c.in_default.ensures level is))

pub loop-place-preserved : goal.loop-place-preserved
loop-place-preserved c =
    HasLevels-more c.args.digits.now c.loop-place.place c.in-Some.field-0 c.loop-place.invariant c.loop-place-test.true c.if-place-lt-MOST_LEVELS.true c.in-Some.ensures
