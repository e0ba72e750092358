-- What the words of a command line ask for. (docs/PLANNING.md, "`canplan`")
use Rattle.std.specs.Prelude.{ℕ, if◌then◌else◌, List, [], ◌∷◌, Option, Some, None, codes}
use Rattle.std.specs.Str.{bytes_eq}
use Rattle.can_program.specs.Words.{is_help_word, is_version_word}
use Rattle.can_plan_text.specs.declared.words.Asked.{Asked}
use Rattle.can_plan_text.specs.declared.words.Asked.TheVariants.{Answer, Details, Help, Timeline, Version}

-- what one word asks for: help, the version, or bounds with details
abbrev pub canplan_word : List ℕ → Option Asked
canplan_word word =
    if is_help_word word then Some Help
    else if is_version_word word then Some Version
    else (if bytes_eq word (codes "--details") then Some Details else None)

-- what a word asks for that is followed by the name of a message: the scenario of its worst case
abbrev pub asked_of_message : List ℕ → Option Asked
asked_of_message word = if bytes_eq word (codes "--timeline") then Some Timeline else None

-- What the words ask for. After the program's name, whatever it is, comes no word, one word, or one word and the name of a
-- message.
abbrev pub asked_of_canplan : List (List ℕ) → Option Asked
asked_of_canplan [] = None
asked_of_canplan (name ∷ []) = Some Answer
asked_of_canplan (name ∷ word ∷ []) = canplan_word word
asked_of_canplan (name ∷ word ∷ message ∷ []) = asked_of_message word
asked_of_canplan (name ∷ word ∷ message ∷ other ∷ words) = None

-- the message that the words name
abbrev pub message_in : List (List ℕ) → List ℕ
message_in (name ∷ word ∷ message ∷ []) = message
message_in _ = []
