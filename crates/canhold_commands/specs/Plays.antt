-- The output of an adapter for its input. (docs/CONFORMANCE.md)
use Rattle.std.specs.Prelude.{ℕ, ◌≡◌, List, [], ◌∷◌, ◌++◌, Option, None, Result, Ok, Err, codes}
use Rattle.can_node.specs.Ports.{PortState}
use Rattle.can_stream.specs.Lines.{ended_lines}
use Rattle.can_stream.specs.declared.fault.TraceFault.{TraceFault}
use Rattle.can_stream.specs.declared.fault.TraceFault.TheVariants.{BadByte, Read, Write, Long, FrameLine, ScenarioField, Memory}
use Rattle.canhold_commands.specs.Adapters.{AreAnswered}
use Rattle.canhold_commands.specs.Commands.{quit_line}

-- the first line that an adapter writes
abbrev pub greeting : List ℕ
greeting = codes "can-kit 1 Riddlesage, the proved reference\n"

-- The output is the greeting and the replies to these lines, and afterwards the port of the case is this one.
pub record IsConversation (after : Option PortState) (lines : List (List ℕ)) (output : List ℕ) : Type 0 where
  pub answers : List ℕ
  pub run : AreAnswered None lines answers after
  pub text : output ≡ greeting ++ answers

-- The output is the greeting and the replies to these lines, whatever the port is afterwards.
abbrev pub AnswersLines : List (List ℕ) → List ℕ → Type 0
AnswersLines lines output = (after : Option PortState) × IsConversation after lines output

-- No line is left, or the next one is `quit`.
abbrev pub IsStopped : List (List ℕ) → Type 0
IsStopped [] = Unit {0}
IsStopped (line ∷ lines) = line ≡ quit_line

-- Of the complete lines, the first ones have their replies, and these others are left.
pub record AnswersFront (input output : List ℕ) (others : List (List ℕ)) : Type 0 where
  pub lines : List (List ℕ)
  pub split : ended_lines input ≡ lines ++ others
  pub answers : AnswersLines lines output

-- All lines before `quit` have their replies, or all complete lines if there is none.
abbrev pub PlaysAll : List ℕ → List ℕ → Type 0
PlaysAll input output = (others : List (List ℕ)) × AnswersFront input output others × IsStopped others

-- All complete lines have their replies.
abbrev pub PlaysEnded : List ℕ → List ℕ → Type 0
PlaysEnded input output = AnswersFront input output []

-- Some first lines have their replies.
abbrev pub PlaysFront : List ℕ → List ℕ → Type 0
PlaysFront input output = (others : List (List ℕ)) × AnswersFront input output others

-- The output is a prefix of the greeting and the replies to some first lines.
abbrev pub BeginsPlaying : List ℕ → List ℕ → Type 0
BeginsPlaying input output = (rest : List ℕ) × PlaysFront input (output ++ rest)

-- The output for the input, for each outcome of the call: success, a failed or too long input, a failed allocation, a
-- failed output.
abbrev pub Plays : Result (Unit {0}) TraceFault → List ℕ → List ℕ → Type 0
Plays (Ok done) input output = PlaysAll input output
Plays (Err Read) input output = PlaysEnded input output
Plays (Err Long) input output = PlaysEnded input output
Plays (Err Memory) input output = PlaysFront input output
Plays (Err Write) input output = BeginsPlaying input output
Plays (Err (BadByte place)) input output = ⊥
Plays (Err (FrameLine line fault)) input output = ⊥
Plays (Err (ScenarioField wrong)) input output = ⊥
