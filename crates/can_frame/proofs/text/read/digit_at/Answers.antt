use Rattle.std.proofs.Common.{◌≡◌, ◌<◌, get_or, ap, subst, sym, ◌∙◌, arith, rules}
use Rattle.can_frame.specs.TextParts.{IsDigit}
use Rattle.can_frame.proofs.DigitTable.{number_digit, number_of}
use Rattle.can_frame.proofs.text.read.digit_at.Goals as goal

pub returns-then-number-lt16-clause-some : goal.returns-then-number-lt16-clause-some
returns-then-number-lt16-clause-some c =
    let byte = get_or c.args.text.now c.args.place 0 in
    let there = c.in_ok-get.ensures.lookup.3 in
    let read : c.from.result ≡ byte = c.from.ensures ∙ there.1 0 in
    let below : number_of byte < 16 = subst (λ n. n < 16) (ap number_of read) c.if-number-lt16.true in
    let is = number_digit byte (omega (arith, c.type_inv.text c.args.place)) below in
    (there.0, subst (λ n. IsDigit n byte) (sym (c.from-then-number-lt16.ensures ∙ ap number_of read)) is)

pub returns-else-number-lt16-clause-none : goal.returns-else-number-lt16-clause-none
returns-else-number-lt16-clause-none c = search rules
