-- What the words of a command line ask for, by clap's definition of a simple command. (docs/FORMATS.md, "Faults and statuses of
-- the program")
use Rattle.std.specs.Prelude.{◌≡◌, ◌≢◌, List, [], Option, Some, option_map}
use Rattle.clap.specs.Words.{IsAmong, Kinds, Text, fault_of, subcommand_of}
use Rattle.clap.specs.declared.error.kind.ErrorKind.{ErrorKind}
use Rattle.clap.specs.declared.error.kind.ErrorKind.TheVariants.{DisplayHelp}
use Rattle.canbit_commands.specs.declared.subcommands.Chosen.{Chosen}
use Rattle.canbit_commands.specs.Subcommands.{canbit, name_of}

-- the kinds of fault with which the words may be refused: none if the command accepts them
abbrev pub faults_in : List Text → Kinds
faults_in words = fault_of canbit words

-- the name of the subcommand that the words name
abbrev pub named_in : List Text → Option Text
named_in words = option_map (λ met. met.0) (subcommand_of canbit words)

-- the command accepts the words, and they name this subcommand
abbrev pub AsksFor : Chosen → List Text → Type 0
AsksFor chosen words = (faults_in words ≡ []) × (named_in words ≡ Some (name_of chosen))

-- the command accepts the words, and they name one of the subcommands
abbrev pub AsksForOne : List Text → Type 0
AsksForOne words = (chosen : Chosen) × AsksFor chosen words

-- the words may be refused as a request for help
abbrev pub AsksForHelp : List Text → Type 0
AsksForHelp words = IsAmong DisplayHelp (faults_in words)

-- the words may be refused for a reason other than a request for help
abbrev pub IsMisuse : List Text → Type 0
IsMisuse words = (kind : ErrorKind) × IsAmong kind (faults_in words) × (kind ≢ DisplayHelp)
