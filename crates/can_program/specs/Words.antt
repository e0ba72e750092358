-- Words of a command line with one meaning in several programs. (docs/CODES.md)
use Rattle.std.specs.Prelude.{ℕ, Bool, ◌||◌, List, codes, map, string_bytes}
use Rattle.std.specs.Str.{bytes_eq}
use Rattle.std.specs.declared.alloc.Global.{Global}
use Rattle.std.specs.declared.string.String.{String}

-- the words as texts
abbrev pub texts_of : List (String Global) → List (List ℕ)
texts_of words = map string_bytes words

-- the options that ask for help
abbrev pub is_help_option : List ℕ → Bool
is_help_option word = bytes_eq word (codes "--help") || bytes_eq word (codes "-h")

-- the words that ask for help
abbrev pub is_help_word : List ℕ → Bool
is_help_word word = bytes_eq word (codes "help") || is_help_option word

-- the words that ask for the version
abbrev pub is_version_word : List ℕ → Bool
is_version_word word = bytes_eq word (codes "--version") || bytes_eq word (codes "-V")
