-- The subcommands of the program, and its command. (docs/FORMATS.md)
use Rattle.std.specs.Prelude.{List, [], ◌∷◌, codes, fold, true}
use Rattle.clap.specs.Words.{App, Text, new_app, with_subcommand}
use Rattle.clap.specs.Simple.{on_top, new_shape}
use Rattle.canbit_commands.specs.declared.subcommands.Chosen.{Chosen}
use Rattle.canbit_commands.specs.declared.subcommands.Chosen.TheVariants.{Encode, Decode, Run, Check}

-- all subcommands, in the order of the help text
abbrev pub subcommands : List Chosen
subcommands = Encode ∷ Decode ∷ Run ∷ Check ∷ []

-- the word that names a subcommand
abbrev pub name_of : Chosen → Text
name_of Encode = codes "encode"
name_of Decode = codes "decode"
name_of Run = codes "run"
name_of Check = codes "check"

-- the command with the name canbit, which requires a subcommand
abbrev pub without_subcommands : App
without_subcommands = on_top (λ s. record s { subcommand_required = true }) (new_app (codes "canbit"))

-- a command with one more subcommand
abbrev pub with_chosen : App → Chosen → App
with_chosen app chosen = with_subcommand app (new_shape (name_of chosen))

-- the command with the name canbit and its subcommands, one of which it requires
abbrev pub canbit : App
canbit = fold with_chosen without_subcommands subcommands
