-- What each subcommand has written for what it read, for each way in which it can end. (docs/FORMATS.md)
use Rattle.std.specs.Prelude.{◌≡◌, ◌≢◌, ◌⊎◌, ℕ, Bool, IsTrue, List}
use Rattle.can_texts.specs.Checked.{BeginsChecking, ChecksAll, ChecksEnded, ChecksTooLong, IsFirstBadByte, IsFirstBadVectorLine}
use Rattle.can_texts.specs.Coded.{BeginsEncoding, EncodesAll, EncodesEnded, EncodesTooLong, IsFirstBadLine}
use Rattle.can_texts.specs.Decoded.{BeginsDecoding, DecodesAll, DecodesSoFar, DecodesToBadByte, DecodesTooLong}
use Rattle.can_trace.specs.Report.{report}
use Rattle.can_scenario_text.specs.Scenarios.{IsWrongScenarioField, IsScenarioText}
use Rattle.can_scenario_text.specs.declared.scenario.Scenario.{Scenario}
use Rattle.can_program.specs.Written.{WritesBeginning, WritesNothing}
use Rattle.can_stream.specs.declared.field.Field.{Field}
use Rattle.canbit_commands.specs.declared.subcommands.Chosen.{Chosen}
use Rattle.canbit_commands.specs.declared.subcommands.Chosen.TheVariants.{Encode, Decode, Run, Check}

-- the output is that for vectors that all pass
abbrev pub PassesAll : List ℕ → List ℕ → Type 0
PassesAll input output = (count : ℕ) × ChecksAll count count input output

-- the output is that for vectors that do not all pass
abbrev pub PassesNotAll : List ℕ → List ℕ → Type 0
PassesNotAll input output = (passed : ℕ) × ((count : ℕ) × (passed ≢ count) × ChecksAll passed count input output)

-- the input is the text of a scenario, and the output is its report
abbrev pub Reports : List ℕ → List ℕ → Type 0
Reports input output = (scenario : Scenario) × IsScenarioText input scenario × (output ≡ report scenario)

-- the input is not the text of a scenario, this is its first wrong field, and nothing is written
abbrev pub RefusesScenario : Field → List ℕ → List ℕ → Type 0
RefusesScenario wrong input output = IsWrongScenarioField wrong input × WritesNothing input output

-- all was done
abbrev pub AnswersAll : Chosen → List ℕ → List ℕ → Type 0
AnswersAll Encode = EncodesAll
AnswersAll Decode = DecodesAll
AnswersAll Run = Reports
AnswersAll Check = PassesAll

-- the reader failed
abbrev pub AnswersEnded : Chosen → List ℕ → List ℕ → Type 0
AnswersEnded Encode = EncodesEnded
AnswersEnded Decode = DecodesSoFar
AnswersEnded Run = WritesNothing
AnswersEnded Check = ChecksEnded

-- the writer failed
abbrev pub BeginsAnswering : Chosen → Bool → List ℕ → List ℕ → Type 0
BeginsAnswering Encode = BeginsEncoding
BeginsAnswering Decode = λ reader_ended. BeginsDecoding
BeginsAnswering Run = λ reader_ended input output. IsTrue reader_ended × WritesBeginning Reports input output
BeginsAnswering Check = BeginsChecking

-- the input is too long
abbrev pub AnswersTooLong : Chosen → List ℕ → List ℕ → Type 0
AnswersTooLong Encode = EncodesTooLong
AnswersTooLong Decode = DecodesTooLong
AnswersTooLong Run = λ input output. ⊥
AnswersTooLong Check = ChecksTooLong

-- the byte at this place is bad
abbrev pub HasBadByte : Chosen → ℕ → List ℕ → List ℕ → Type 0
HasBadByte Encode place input output = ⊥
HasBadByte Decode place input output = DecodesToBadByte place input output
HasBadByte Run place input output = ⊥
HasBadByte Check place input output = IsFirstBadByte place input output

-- the line with this number is bad
abbrev pub HasBadLine : Chosen → ℕ → Bool → List ℕ → List ℕ → Type 0
HasBadLine Encode number reader_ended input output = (fault : _) × IsFirstBadLine number fault reader_ended input output
HasBadLine Decode number reader_ended input output = ⊥
HasBadLine Run number reader_ended input output = ⊥
HasBadLine Check number reader_ended input output = (fault : _) × IsFirstBadVectorLine number fault reader_ended input output

-- all was read, and vectors differ
abbrev pub HasDifferences : Chosen → Bool → List ℕ → List ℕ → Type 0
HasDifferences Encode reader_ended input output = ⊥
HasDifferences Decode reader_ended input output = ⊥
HasDifferences Run reader_ended input output = ⊥
HasDifferences Check reader_ended input output = IsTrue reader_ended × PassesNotAll input output

-- all was read, and a field of the scenario is wrong
abbrev pub HasWrongField : Chosen → Bool → List ℕ → List ℕ → Type 0
HasWrongField Encode reader_ended input output = ⊥
HasWrongField Decode reader_ended input output = ⊥
HasWrongField Run reader_ended input output = IsTrue reader_ended × ((wrong : Field) × RefusesScenario wrong input output)
HasWrongField Check reader_ended input output = ⊥

-- the input is refused
abbrev pub RefusesInput : Chosen → Bool → List ℕ → List ℕ → Type 0
RefusesInput chosen reader_ended input output =
    ((place : ℕ) × HasBadByte chosen place input output)
    ⊎ (((number : ℕ) × HasBadLine chosen number reader_ended input output)
    ⊎ (AnswersTooLong chosen input output
    ⊎ (HasDifferences chosen reader_ended input output ⊎ HasWrongField chosen reader_ended input output)))
