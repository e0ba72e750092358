use Rattle.std.proofs.Common.{◌∙◌}
use Rattle.kit_documents.proofs.WordLists.{choices-other}
use Rattle.kit_documents.proofs.cases.words.choices_in.Goals as goal

pub returns-in_default-choice_in : goal.returns-in_default-choice_in
returns-in_default-choice_in c = λ choices says.
    choices-other c.in-Some.words.now c.loop-word.word-index c.word-item.result c.loop-word-test.true c.word-item.is c.in_default-choice_in.ensures choices (c.in-Some.ensures.said ∙ says.said)
