use Rattle.std.proofs.Common.{arith, length-drop}
use Rattle.std.proofs.lemmas.List.{take_rest}
use Rattle.can_code.proofs.StepLemmas.{HearsDigits-join}
use Rattle.can_code.proofs.front.Front.hear_run.Goals as goal

pub returns-clause-within : goal.returns-clause-within
returns-clause-within g c =
    let digits = c.args.digits.now in
    let taken = c.hear_parts-taken.result in
    omega (arith, rw (take_rest digits taken) at c.hear_last.ensures.within, length-drop taken digits, c.hear_parts-taken.ensures.within)

pub returns-clause-heard : goal.returns-clause-heard
returns-clause-heard g c =
    let digits = c.args.digits.now in
    let taken = c.hear_parts-taken.result in
    HearsDigits-join c.args.self.now c.hear_parts-taken.new.self c.hear_last.new.self digits taken c.hear_last.result c.hear_parts-taken.ensures.heard (rw (take_rest digits taken) at c.hear_last.ensures.heard)
