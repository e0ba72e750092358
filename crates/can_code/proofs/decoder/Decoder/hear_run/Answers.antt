use Rattle.std.proofs.Common.{arith, length-drop}
use Rattle.std.proofs.lemmas.List.{take_rest}
use Rattle.can_code.proofs.UnstuffingLemmas.{DecodesDigits-join}
use Rattle.can_code.proofs.decoder.Decoder.hear_run.Goals as goal

pub returns-clause-within : goal.returns-clause-within
returns-clause-within g c =
    let digits = c.args.digits.now in
    let front = c.hear_front-front.result in
    omega (arith, rw (take_rest digits front) at c.hear_behind.ensures.within, length-drop front digits, c.hear_front-front.ensures.within)

pub returns-clause-heard : goal.returns-clause-heard
returns-clause-heard g c =
    let digits = c.args.digits.now in
    let front = c.hear_front-front.result in
    DecodesDigits-join c.args.self.now c.hear_front-front.new.self c.hear_behind.new.self digits front c.hear_behind.result c.hear_front-front.ensures.heard (rw (take_rest digits front) at c.hear_behind.ensures.heard)
