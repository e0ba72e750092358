-- What the words of a command line ask for. (docs/CONFORMANCE.md, "Line by line")
use Rattle.std.specs.Prelude.{ℕ, ◌≡◌, Bool, ◌&&◌, ◌||◌, if◌then◌else◌, List, [], ◌∷◌, Option, Some, None, codes}
use Rattle.std.specs.Str.{bytes_eq}
use Rattle.can_program.specs.Words.{is_help_option, is_help_word, is_version_word}
use Rattle.canhold_commands.specs.declared.words.Asked.{Asked}
use Rattle.canhold_commands.specs.declared.words.Asked.TheVariants.{Run, Help, Version}
use Rattle.canhold_commands.specs.declared.words.Chosen.{Chosen}
use Rattle.canhold_commands.specs.declared.words.Chosen.TheVariants.{Play, Document}
use Rattle.canhold_commands.specs.declared.words.Question.TheVariants.{Expect, Judge}

-- What one word asks for: it names a subcommand, or asks for the help text or the version.
abbrev pub canhold_word : List ℕ → Option Asked
canhold_word word =
    if bytes_eq word (codes "play") then Some (Run Play)
    else if bytes_eq word (codes "expect") then Some (Run (Document Expect))
    else if bytes_eq word (codes "judge") then Some (Run (Document Judge))
    else if is_help_word word then Some Help
    else (if is_version_word word then Some Version else None)

-- whether a word names a subcommand
abbrev pub is_subcommand : List ℕ → Bool
is_subcommand word = bytes_eq word (codes "play") || (bytes_eq word (codes "expect") || bytes_eq word (codes "judge"))

-- What two words ask for: the help text, if the first names a subcommand and the second is an option for help.
abbrev pub canhold_words : List ℕ → List ℕ → Option Asked
canhold_words word option = if is_subcommand word && is_help_option option then Some Help else None

-- What the words ask for: the program's name, whatever it is, followed by one word or two.
abbrev pub asked_of_canhold : List (List ℕ) → Option Asked
asked_of_canhold [] = None
asked_of_canhold (name ∷ []) = None
asked_of_canhold (name ∷ word ∷ []) = canhold_word word
asked_of_canhold (name ∷ word ∷ option ∷ []) = canhold_words word option
asked_of_canhold (name ∷ word ∷ option ∷ other ∷ words) = None

-- The words ask for this subcommand.
abbrev pub AsksCanhold : Chosen → List (List ℕ) → Type 0
AsksCanhold chosen words = asked_of_canhold words ≡ Some (Run chosen)
