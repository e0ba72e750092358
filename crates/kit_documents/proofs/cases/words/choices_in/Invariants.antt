use Rattle.std.proofs.Common.{◌≡◌, map, take}
use Rattle.toml.specs.Data.{string}
use Rattle.toml.specs.View.{view}
use Rattle.kit_documents.specs.CaseWords.{choice_word}
use Rattle.kit_documents.proofs.cases.words.choices_in.Given as goal

abbrev pub invariant-loop-word : goal.invariant-loop-word
invariant-loop-word l = map view (take l.word-index l.words) ≡ map string (map choice_word l.choices.items)
