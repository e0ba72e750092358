-- What the words of a command line ask for. (docs/CIRCUIT.md, "`cangates`")
use Rattle.std.specs.Prelude.{ℕ, if◌then◌else◌, ◌&&◌, ◌||◌, List, [], ◌∷◌, Option, Some, None, codes}
use Rattle.std.specs.Str.{bytes_eq}
use Rattle.can_program.specs.Words.{is_help_option, is_help_word, is_version_word}
use Rattle.cangates.specs.declared.words.Asked.{Asked}
use Rattle.cangates.specs.declared.words.Asked.TheVariants.{File, Help, Version}
use Rattle.cangates.specs.declared.words.Form.TheVariants.{Verilog, Ascii, Binary}

-- What one word asks for: a file, the help text or the version.
abbrev pub asked_word : List ℕ → Option Asked
asked_word word =
    if bytes_eq word (codes "verilog") then Some (File Verilog)
    else if bytes_eq word (codes "aiger") then Some (File Ascii)
    else if is_help_word word then Some Help
    else (if is_version_word word then Some Version else None)

-- What a word with an option after it asks for: the binary form of AIGER, or the help text.
abbrev pub asked_words : List ℕ → List ℕ → Option Asked
asked_words word option =
    if bytes_eq word (codes "aiger") && bytes_eq option (codes "--binary") then Some (File Binary)
    else (if (bytes_eq word (codes "verilog") || bytes_eq word (codes "aiger")) && is_help_option option then Some Help else None)

-- What the words ask for: the program's name, whatever it is, followed by one word, or by one with an option.
abbrev pub asked_by : List (List ℕ) → Option Asked
asked_by [] = None
asked_by (name ∷ []) = None
asked_by (name ∷ word ∷ []) = asked_word word
asked_by (name ∷ word ∷ option ∷ []) = asked_words word option
asked_by (name ∷ word ∷ option ∷ other ∷ words) = None
