use Rattle.std.proofs.Common.{ap, inr, rules, Err}
use Rattle.can_program.specs.Words.{texts_of}
use Rattle.canbit_commands.proofs.Parses.{alone_asks, misuse}
use Rattle.canbit_commands.proofs.words.chosen.Goals as goal

pub returns-in-Ok-clause-alone : goal.returns-in-Ok-clause-alone
returns-in-Ok-clause-alone c name chosen is =
    let same = c.met.ensures.only chosen (c.in-Ok.ensures.alone name chosen is) in
    search rules

pub returns-in-Ok-clause-alone_asks : goal.returns-in-Ok-clause-alone_asks
returns-in-Ok-clause-alone_asks c name chosen is = alone_asks _ name chosen is

pub returns-in-Err-clause-usage : goal.returns-in-Err-clause-usage
returns-in-Err-clause-usage c is =
    misuse (texts_of c.args.words.now) c.in-Err.error c.in-Err.ensures.refused (c.refusal.ensures.usage cc)

pub returns-in-Err-clause-alone : goal.returns-in-Err-clause-alone
returns-in-Err-clause-alone c name chosen is =
    let memory = c.in-Err.ensures.alone name chosen is in
    inr (ap Err (c.refusal.ensures.memory memory))

pub returns-in-Err-clause-alone_asks : goal.returns-in-Err-clause-alone_asks
returns-in-Err-clause-alone_asks c name chosen is = alone_asks _ name chosen is
