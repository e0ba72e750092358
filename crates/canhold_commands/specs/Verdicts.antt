-- The line of a verdict. (docs/CONFORMANCE.md, "Verdict lines")
use Rattle.std.specs.Prelude.{ℕ, List, [], ◌∷◌, ◌++◌, Option, Some, None, codes, decimal}
use Rattle.can_frame.specs.declared.level.Level.{Level}
use Rattle.can_terms.specs.declared.event.Event.{Event}
use Rattle.can_conform.specs.declared.judging.Difference.{Difference}
use Rattle.can_conform.specs.declared.judging.Difference.TheVariants as difference
use Rattle.can_conform.specs.declared.judging.Failure.{Failure}
use Rattle.can_conform.specs.declared.judging.Verdict.{Verdict}
use Rattle.can_conform.specs.declared.judging.Verdict.TheVariants.{Pass, Fail}
use Rattle.can_terms.specs.declared.transcript.Counters.{Counters}
use Rattle.can_terms.specs.declared.transcript.Ending.{Ending}
use Rattle.can_frame.specs.Levels.{digit_of}
use Rattle.kit_documents.specs.declared.cases.words.Choice.{Choice}
use Rattle.kit_documents.specs.CaseWords.{choice_word}
use Rattle.can_fault.specs.Words.{state_word}
use Rattle.kit_documents.specs.Events.{event_text}
use Rattle.canhold_commands.specs.Standings.{standing_text}

-- ---- actual and expected values

-- the actual value, and the expected one
abbrev pub not_text : {A : Type 0} → (A → List ℕ) → A → A → List ℕ
not_text text told ought = text told ++ (codes " not " ++ text ought)

-- the digit of a level
abbrev pub level_text : Level → List ℕ
level_text level = digit_of level ∷ []

-- An actual and an expected level; too few levels; too many.
abbrev pub level_difference : Option Level → Option Level → List ℕ
level_difference None ought = codes "drove nothing"
level_difference (Some told) None = codes "drove too long"
level_difference (Some told) (Some ought) = codes "drove " ++ not_text level_text told ought

-- an event, or `nothing`
abbrev pub event_or_nothing : Option Event → List ℕ
event_or_nothing None = codes "nothing"
event_or_nothing (Some event) = event_text event

-- TEC and REC
abbrev pub counters_text : Counters → List ℕ
counters_text c = decimal c.transmit ++ (codes " " ++ decimal c.receive)

-- the state, TEC and REC
abbrev pub ending_text : Ending → List ℕ
ending_text end = state_word end.state ++ (codes " " ++ counters_text end.counters)

-- the kind of a difference, with its actual and expected value
abbrev pub difference_text : Difference → List ℕ
difference_text (difference.Level told ought) = level_difference told ought
difference_text (difference.Event told ought) = codes "reported " ++ not_text event_or_nothing told ought
difference_text (difference.Counters told ought) = codes "counted " ++ not_text counters_text told ought
difference_text (difference.End told ought) = codes "end " ++ not_text ending_text told ought

-- ---- the line

-- The bit time, the difference, and the reference's state before it.
abbrev pub failure_text : Failure → List ℕ
failure_text f =
    codes " at " ++ (decimal f.time ++ (codes ": " ++ (difference_text f.difference
    ++ (codes "; " ++ standing_text f.standing))))

-- The choices that the expected result depends on, in their order.
abbrev pub choices_text : List Choice → List ℕ
choices_text [] = []
choices_text (choice ∷ choices) = codes "; choice " ++ (choice_word choice ++ choices_text choices)

-- The verdict on the case with this name and these choices.
abbrev pub verdict_text : List ℕ → List Choice → Verdict → List ℕ
verdict_text name choices Pass = codes "pass " ++ name
verdict_text name choices (Fail failure) = codes "fail " ++ (name ++ (failure_text failure ++ choices_text choices))

-- the line of a verdict
abbrev pub verdict_line : List ℕ → List Choice → Verdict → List ℕ
verdict_line name choices verdict = verdict_text name choices verdict ++ codes "\n"
