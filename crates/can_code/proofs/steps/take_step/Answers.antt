use Rattle.std.proofs.Common.{◌≢◌, arith}
use Rattle.can_code.specs.Digits.{levels_up}
use Rattle.can_code.specs.Steps.{begun, row_last, row_run, steps_on}
use Rattle.can_code.proofs.StepLemmas.{taken-bounds}
use Rattle.can_code.proofs.StepTable.{read-none, read-some}
use Rattle.can_code.proofs.steps.take_step.Goals as goal

pub returns-then-entry : goal.returns-then-entry
returns-then-entry c =
    let last = row_last c.args.row in
    let run = row_run c.args.row in
    read-none (steps_on (begun last run) (levels_up c.args.count c.args.levels)) c.entry-entry.result c.entry-entry.ensures
    (λ s is. taken-bounds last run 8 c.args.count c.args.levels s (omega arith) (omega arith) c.requires.few is) (omega (arith, c.if-entry.true))

pub returns : goal.returns
returns c =
    let last = row_last c.args.row in
    let run = row_run c.args.row in
    let some : c.entry-entry.result ≢ 65535 = c.if-entry.false in
    read-some (steps_on (begun last run) (levels_up c.args.count c.args.levels)) c.entry-entry.result c.entry-entry.ensures
    (λ s is. taken-bounds last run 8 c.args.count c.args.levels s (omega arith) (omega arith) c.requires.few is) some
