use Rattle.std.proofs.Common.{subst}
use Rattle.can_code.specs.Unstuffing.{Unstuffs, as_run}
use Rattle.can_code.proofs.unstuffing.unstuff_steps.Goals as goal

pub returns : goal.returns
returns c =
    let now = c.unstuff_rows-now in
    rw (c.at.ensures) (subst (λ b. Unstuffs c.args.digits.now c.args.room b (as_run now.result)) c.row.ensures.run now.ensures.taken)
