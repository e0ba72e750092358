use Rattle.std.proofs.Common.{◌+◌, ◌++◌, map, take, ap, ◌∙◌, arith}
use Rattle.std.proofs.lemmas.List.{length-take-le, take-map}
use Rattle.can_frame.specs.Levels.{bits_of, digit_of}
use Rattle.can_wire.proofs.DrivenDigits.{HasDigits-more, put_step}
use Rattle.can_wire.proofs.digits.put_octet.Goals as goal

pub returns : goal.returns
returns c =
    let old = c.args.digits.now in
    let len = c.args.before.len in
    let s = c.stuff_step-step.result in
    let is = c.stuff_step-step.ensures.step in
    λ u has. HasDigits-more old c.put_ten.new.digits c.args.before _ u (bits_of 8 c.args.octet) has c.stuff_step-step.ensures.row
    (put_step c.put_ten.new.digits old (map digit_of (bits_of 10 s.number)) len s.len c.put_ten.ensures c.stuff_step-step.ensures.few
    (length-take-le len old (omega (arith, c.told-digits, c.requires.room)))
    ∙ ap (λ l. take len old ++ l) (take-map digit_of s.len (bits_of 10 s.number) ∙ ap (map digit_of) is.levels))
    (ap (λ n. len + n) is.len) is.ends is.ends_run
