use Rattle.canbit_commands.proofs.Parses.{alone, known, taken}
use Rattle.canbit_commands.proofs.words.parsed.Goals as goal

pub returns-clause-taken : goal.returns-clause-taken
returns-clause-taken c = taken _ _ c.in_ok-command.ensures _ c.try_get_matches_from.ensures.kinds

pub returns-clause-known : goal.returns-clause-known
returns-clause-known c =
    let parse = c.try_get_matches_from in
    known _ _ c.in_ok-command.ensures parse.result parse.ensures.matches parse.ensures.kinds

pub returns-clause-alone : goal.returns-clause-alone
returns-clause-alone c =
    let parse = c.try_get_matches_from in
    alone _ _ c.in_ok-command.ensures parse.result parse.ensures.matches parse.ensures.kinds
