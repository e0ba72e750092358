use Rattle.std.proofs.Common.{◌≡◌, ◌≢◌, false, sym, ◌∙◌, ap, subst, arith, length, take}
use Rattle.std.proofs.Math.Dec.{eqb}
use Rattle.std.proofs.lemmas.Bool.{and_left, eq-eqb, eqb-false, false≢true, ne_eqb}
use Rattle.can_frame.specs.Levels.{same}
use Rattle.can_code.specs.Digits.{HearsDigits}
use Rattle.can_code.specs.Front.{heard_level, is_stuff_error}
use Rattle.can_code.proofs.HeardLevels.{at_ok}
use Rattle.can_code.proofs.UnstuffingLemmas.{HearsDigits-level, HearsDigits-none}
use Rattle.can_code.proofs.front.Front.hear_last.Goals as goal

pub returns-in-Some-clause-heard : goal.returns-in-Some-clause-heard
returns-in-Some-clause-heard g c =
    let f = c.args.self.now in
    let x = c.in-Some.level in
    let digits = c.args.digits.now in
    let no_stuff_bit : f.run ≢ 5 = λ due. eqb-false _ 5 (sym c.is_longest.ensures ∙ c.if-is_longest.false) (ap (λ e. e.run) c.self.view_is ∙ due) in
    let no_error : is_stuff_error f x ≡ false = and_left (eqb f.run 5) (same x f.last) (ne_eqb f.run 5 no_stuff_bit) in
    let next : c.hear.new.self ≡ heard_level f x = at_ok c.hear.result c.if-is_ok.ensures.negation c.hear.ensures.ok in
    let some : length digits ≢ 0 = λ none. false≢true (sym (sym c.is_empty.ensures ∙ c.if-is_empty.false) ∙ eq-eqb _ _ none) in
    subst (λ e. HearsDigits f e (take 1 digits)) (sym next) (HearsDigits-level f f digits 0 x (omega arith) (sym c.in-Some.ensures) c.requires no_error (HearsDigits-none f digits))
