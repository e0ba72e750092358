use Rattle.std.proofs.lemmas.Bool.Decides.{Decides-eqb}
use Rattle.std.proofs.lemmas.Slice.Eq.{strip_suffix_is}
use Rattle.canhold_commands.proofs.CommandLines.{name-from}
use Rattle.canhold_commands.proofs.command.name_before.Goals as goal

pub returns : goal.returns
returns c =
    name-from c.args.line.now c.args.ending.now c.in_ok-behind.field-0.now c.strip_suffix.result c.in_ok-behind.ensures
    (strip_suffix_is Decides-eqb c.in_ok-behind.field-0.now c.args.ending.now c.strip_suffix.result c.strip_suffix.ensures.cases)
