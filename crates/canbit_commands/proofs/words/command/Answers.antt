use Rattle.std.proofs.Common.{◌∙◌, ap₂, arith, rules, sym}
use Rattle.std.proofs.lemmas.List.Sums.{fold_more}
use Rattle.clap.specs.Words.{with_subcommand}
use Rattle.canbit_commands.specs.declared.subcommands.Chosen.TheVariants.{Encode}
use Rattle.canbit_commands.specs.Subcommands.{subcommands, without_subcommands, with_chosen}
use Rattle.canbit_commands.proofs.words.command.Goals as goal

pub loop-chosen-preserved : goal.loop-chosen-preserved
loop-chosen-preserved c =
    c.in_ok-command.ensures.shape (search rules)
    ∙ ap₂ with_subcommand c.loop-chosen.invariant c.subcommand.ensures.shape
    ∙ sym (fold_more with_chosen without_subcommands subcommands c.loop-chosen.chosen-index Encode (omega arith))
