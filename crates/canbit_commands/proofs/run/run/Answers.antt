use Rattle.std.proofs.Common.{◌≡◌, refl, rules, Err}
use Rattle.canbit_commands.proofs.Runs.{ran, unread, unsaid}
use Rattle.canbit_commands.proofs.run.run.Goals as goal

pub returns-in_err-text : goal.returns-in_err-text
returns-in_err-text g c =
    let told = c.in_err-text.ensures in
    let outcome : c.from_residual.result ≡ Err c.in_err-text.field-0.0 = search rules in
    rw outcome (unread _ _ _ _ _ _ _ _ _ _ told.other told.part told.read_failed c.requires.writer_unfailed refl)

pub returns-in_err-scenario : goal.returns-in_err-scenario
returns-in_err-scenario g c =
    let read = c.in_ok-text.ensures in
    let told = c.in_err-scenario.ensures in
    let outcome : c.from_residual-in_err-scenario.result ≡ Err c.in_err-scenario.field-0.0 = search rules in
    rw outcome (unsaid _ _ _ _ _ _ _ _ _ _ read.read_failed _ _ read.whole c.as_slice.ensures.value read.ended _ told.other told.wrong c.requires.writer_unfailed refl)

pub returns : goal.returns
returns g c =
    let read = c.in_ok-text.ensures in
    let told = c.run_scenario.ensures in
    ran _ _ _ _ _ _ _ _ _ _ read.read_failed _ _ read.whole c.as_slice.ensures.value read.ended _ c.in_ok-scenario.ensures.found _ read.at_end told.ok told.write told.memory told.other told.write_failed
