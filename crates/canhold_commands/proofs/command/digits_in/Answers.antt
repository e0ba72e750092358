use Rattle.std.proofs.Common.{◌≡◌, length, sym, ◌∙◌, arith, eq-eqb}
use Rattle.std.proofs.lemmas.Bool.{false≢true}
use Rattle.canhold_commands.proofs.CommandLines.{play_found, play_other}
use Rattle.canhold_commands.proofs.command.digits_in.Goals as goal

pub returns-then-not-are_digits : goal.returns-then-not-are_digits
returns-then-not-are_digits c = play_other _ c.in_ok-digits.digits.now c.in_ok-digits.ensures (sym c.are_digits.ensures ∙ c.if-not-are_digits.true)

pub returns : goal.returns
returns c =
    let some : ¬ (length c.in_ok-digits.digits.now ≡ 0) = λ none. false≢true (sym (sym c.is_empty.ensures ∙ c.if-is_empty.false) ∙ eq-eqb _ _ none) in
    play_found _ c.in_ok-digits.digits.now c.in_ok-digits.ensures (omega (arith, some)) c.if-digits-gt-MOST_LEVELS.false (sym c.are_digits.ensures ∙ c.if-not-are_digits.false)
