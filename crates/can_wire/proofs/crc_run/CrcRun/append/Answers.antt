use Rattle.std.proofs.Common.{ap, ◌∙◌}
use Rattle.can_frame.specs.Levels.{bits_of}
use Rattle.can_wire.proofs.CheckRuns.{IsCrc-on}
use Rattle.can_wire.proofs.Register.{register}
use Rattle.can_wire.proofs.crc_run.CrcRun.append.Goals as goal

pub returns-clause-check : goal.returns-clause-check
returns-clause-check c = λ levels is.
    let more = bits_of c.args.count c.args.number in
    let step = c.shift_in_bits-self-inside.ensures.step ∙ ap (λ r. register (bits_of 15 r) more) c.self.view_is in
    IsCrc-on _ _ levels more step is
