-- The lines of a runner, and the command in each. (docs/CONFORMANCE.md)
use Rattle.std.specs.Prelude.{ℕ, ◌≡◌, ◌+◌, ◌≤◌, ◌==◌, Bool, ◌||◌, if◌then◌else◌, List, [], ◌∷◌, ◌++◌, length, map, codes}
use Rattle.can_frame.specs.Parts.{Parts, IsFrame}
use Rattle.can_frame.specs.Text.{frame_text}
use Rattle.can_terms.specs.declared.script.Start.{Start}
use Rattle.can_terms.specs.declared.script.Start.TheVariants.{Idle, Joining}
use Rattle.can_terms.specs.declared.script.TesterLevel.{TesterLevel}
use Rattle.can_terms.specs.declared.script.TesterLevel.TheVariants.{Dominant, Recessive, Forced}
use Rattle.kit_documents.specs.Names.{longest_name}

-- A command of the runner: begin a case, queue a frame, request overload frames, play bit times, or end the case.
pub data Command : Type 0 where
  begins : Start → Command
  offers : Parts → Command
  wishes : ℕ → Command
  plays : List TesterLevel → Command
  ends : Command

-- The digit for what the tester does in a bit time: 0 dominant, 1 recessive, f forced.
abbrev pub tester_digit : TesterLevel → ℕ
tester_digit Dominant = 48
tester_digit Recessive = 49
tester_digit Forced = 102

-- whether a byte is such a digit
abbrev pub is_tester_digit : ℕ → Bool
is_tester_digit byte = (byte == 48) || ((byte == 49) || (byte == 102))

-- what the tester does for a digit
abbrev pub tester_of : ℕ → TesterLevel
tester_of digit = if digit == 48 then Dominant else (if digit == 49 then Recessive else Forced)

-- what follows the name of a case
abbrev pub start_part : Start → List ℕ
start_part Idle = codes " idle"
start_part Joining = codes " joining"

-- the maximum number of bit times in a line
abbrev pub longest_play : ℕ
longest_play = 4096

-- `case NAME` followed by this ending; the name has at most 80 bytes
pub record IsCaseLine (line ending : List ℕ) : Type 0 where
  pub name : List ℕ
  pub short : length name ≤ longest_name
  pub text : line ≡ codes "case " ++ (name ++ ending)

-- `offer FRAME`
pub record IsOfferLine (line : List ℕ) (f : Parts) : Type 0 where
  pub frame : IsFrame f
  pub text : line ≡ codes "offer " ++ frame_text f

-- `hold N`, with N from 0 to 2
pub record IsHoldLine (line : List ℕ) (n : ℕ) : Type 0 where
  pub few : n ≤ 2
  pub text : line ≡ codes "hold " ++ (48 + n) ∷ []

-- `play LEVELS`, with 1 to 4096 levels
pub record IsPlayLine (line : List ℕ) (levels : List TesterLevel) : Type 0 where
  pub some : 1 ≤ length levels
  pub few : length levels ≤ longest_play
  pub text : line ≡ codes "play " ++ map tester_digit levels

-- The line is this command.
abbrev pub IsCommandLine : List ℕ → Command → Type 0
IsCommandLine line (begins start) = IsCaseLine line (start_part start)
IsCommandLine line (offers f) = IsOfferLine line f
IsCommandLine line (wishes n) = IsHoldLine line n
IsCommandLine line (plays levels) = IsPlayLine line levels
IsCommandLine line ends = line ≡ codes "end"

-- the line with which the runner ends the adapter
abbrev pub quit_line : List ℕ
quit_line = codes "quit"
