use Rattle.std.proofs.Common.{◌≡◌, take, fold}
use Rattle.clap.specs.Words.{app_of}
use Rattle.canbit_commands.specs.Subcommands.{subcommands, without_subcommands, with_chosen}
use Rattle.canbit_commands.proofs.words.command.Given as goal

-- the command with the subcommands so far
abbrev pub invariant-loop-chosen : goal.invariant-loop-chosen
invariant-loop-chosen l = app_of l.command ≡ fold with_chosen without_subcommands (take l.chosen-index subcommands)
