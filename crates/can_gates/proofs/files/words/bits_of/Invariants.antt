use Rattle.std.proofs.Common.{◌≡◌, ◌++◌, drop}
use Rattle.std.specs.List.{flat_map}
use Rattle.can_gates.specs.Names.{bits_of_word}
use Rattle.can_gates.proofs.files.words.bits_of.Given as goal

-- with those of the words from here on, these are all names
abbrev pub invariant-loop-word : goal.invariant-loop-word
invariant-loop-word l = l.bits.items ++ flat_map bits_of_word (drop l.word-index l.words) ≡ flat_map bits_of_word l.words
