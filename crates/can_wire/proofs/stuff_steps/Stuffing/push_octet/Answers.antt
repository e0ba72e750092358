use Rattle.std.proofs.Common.{◌+◌, ◌++◌, take, ap, ◌∙◌, arith}
use Rattle.std.proofs.lemmas.List.{length-take-le}
use Rattle.can_frame.specs.Levels.{bits_of}
use Rattle.can_wire.proofs.StuffSteps.{LaysOut-more, taken-step}
use Rattle.can_wire.proofs.stuff_steps.Stuffing.push_octet.Goals as goal

pub returns : goal.returns
returns c =
    let old = c.args.levels.now in
    let len = c.args.self.now.len in
    let s = c.stuff_step-step.result in
    let is = c.stuff_step-step.ensures.step in
    λ u laid. LaysOut-more old c.put_ten.new.levels c.args.self.now _ u (bits_of 8 c.args.octet) laid c.stuff_step-step.ensures.row
    (taken-step c.put_ten.new.levels old (bits_of 10 s.number) len s.len c.put_ten.ensures c.stuff_step-step.ensures.few
    (length-take-le len old (omega (arith, c.told-levels, c.requires.room))) ∙ ap (λ l. take len old ++ l) is.levels)
    (ap (λ n. len + n) is.len) is.ends is.ends_run
