use Rattle.std.proofs.Common.{[], ◌∷◌, ap, ◌∙◌}
use Rattle.can_frame.specs.Levels.{bits_of}
use Rattle.can_wire.proofs.CheckRuns.{IsCrc-on}
use Rattle.can_wire.proofs.Register.{register}
use Rattle.can_wire.proofs.crc_run.CrcRun.push.Goals as goal

pub returns-clause-check : goal.returns-clause-check
returns-clause-check c = λ levels is.
    let step = c.shift_in-self-inside.ensures.step ∙ ap (λ r. register (bits_of 15 r) (c.args.level ∷ [])) c.self.view_is in
    IsCrc-on _ _ levels (c.args.level ∷ []) step is
