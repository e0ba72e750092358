use Rattle.std.proofs.Common.{sym, ap, ◌∙◌}
use Rattle.can_frame.specs.Levels.{bits_of, number_from}
use Rattle.can_wire.proofs.LevelLemmas.{bits_of-number_from}
use Rattle.can_wire.proofs.Register.{register}
use Rattle.can_wire.proofs.crc_run.shift_in_octet.Goals as goal

pub returns-clause-step : goal.returns-clause-step
returns-clause-step c =
    let levels = c.args.levels.now in
    let bits = ap (bits_of 8) c.number_of.ensures.value ∙ ap (λ n. bits_of n (number_from 0 levels)) (sym c.told-levels) ∙ bits_of-number_from 0 levels in
    c.shift_in_few.ensures.step ∙ ap (register (bits_of 15 c.args.register)) bits
