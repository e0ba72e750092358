-- The reference as an adapter: its reply to a line, and its port after it. (docs/CONFORMANCE.md)
use Rattle.std.specs.Prelude.{ℕ, ◌≡◌, ◌≢◌, ◌⊎◌, ◌+◌, List, [], ◌∷◌, ◌++◌, map, Option, Some, None, option_map, codes, decimal}
use Rattle.can_frame.specs.declared.level.Level.{Level}
use Rattle.can_fault.specs.Counters.{state_of}
use Rattle.can_terms.specs.declared.event.Event.{Event}
use Rattle.can_node.specs.Ports.{PortState, port_drives, with_offer}
use Rattle.can_terms.specs.declared.script.TesterLevel.{TesterLevel}
use Rattle.can_conform.specs.Runs.{met, started, told_event, wished}
use Rattle.can_frame.specs.Levels.{digit_of}
use Rattle.can_fault.specs.Words.{state_word}
use Rattle.can_stream.specs.Lines.{line_end}
use Rattle.kit_documents.specs.Events.{event_text}
use Rattle.canhold_commands.specs.Commands.{Command, begins, offers, wishes, plays, ends, IsCommandLine, quit_line}

-- ---- bit times

-- the port after these bit times, one after another
abbrev pub behind_levels : List TesterLevel → PortState → PortState
behind_levels [] p = p
behind_levels (x ∷ xs) p = behind_levels xs (met x p)

-- the levels that it drives in them
abbrev pub drove_in : List TesterLevel → PortState → List Level
drove_in [] p = []
drove_in (x ∷ xs) p = port_drives p ∷ drove_in xs (met x p)

-- the line of an event in the bit time at this place, if there is one
abbrev pub event_line : ℕ → Option Event → List ℕ
event_line place None = []
event_line place (Some event) = codes "event " ++ (decimal place ++ (codes " " ++ (event_text event ++ line_end)))

-- The lines of all events. The first of the bit times has this place.
abbrev pub event_lines : ℕ → List TesterLevel → PortState → List ℕ
event_lines place [] p = []
event_lines place (x ∷ xs) p = event_line place (told_event x p) ++ event_lines (place + 1) xs (met x p)

-- ---- one line

-- the reply to `play`: the lines of the events, and then that of the driven levels
abbrev pub play_answer : List TesterLevel → PortState → List ℕ
play_answer xs p = event_lines 0 xs p ++ (codes "drove " ++ (map digit_of (drove_in xs p) ++ line_end))

-- the reply to `end`: the state, TEC and REC
abbrev pub state_answer : PortState → List ℕ
state_answer p =
    codes "state " ++ (state_word (state_of p.mac.counters)
    ++ (codes " " ++ (decimal p.mac.counters.tec
    ++ (codes " " ++ (decimal p.mac.counters.rec ++ line_end)))))

-- the reply to a line that needs a case before one has begun
abbrev pub no_case_answer : List ℕ
no_case_answer = codes "error no case\n"

-- the reply to a line that is not in the protocol
abbrev pub no_line_answer : List ℕ
no_line_answer = codes "error no line of the protocol\n"

-- The reply to a line that needs a case: one for its port, if a case has begun.
abbrev pub if_begun : Option PortState → (PortState → List ℕ) → List ℕ
if_begun None answer = no_case_answer
if_begun (Some p) answer = answer p

-- The reply to a command, with this port if a case has begun.
abbrev pub answer_to : Command → Option PortState → List ℕ
answer_to (begins start) p = codes "ready\n"
answer_to (offers f) p = if_begun p (λ port. [])
answer_to (wishes n) p = if_begun p (λ port. [])
answer_to (plays levels) p = if_begun p (play_answer levels)
answer_to ends p = if_begun p state_answer

-- The port after a command. Only `case` begins one.
abbrev pub behind_command : Command → Option PortState → Option PortState
behind_command (begins start) p = Some (started start)
behind_command (offers f) p = option_map (with_offer f) p
behind_command (wishes n) p = option_map (wished n) p
behind_command (plays levels) p = option_map (behind_levels levels) p
behind_command ends p = p

-- The line is a command: it has the reply to that command, and the port is the one after it.
pub record IsDone (line : List ℕ) (before : Option PortState) (answer : List ℕ) (after : Option PortState) : Type 0 where
  pub command : Command
  pub asked : IsCommandLine line command
  pub text : answer ≡ answer_to command before
  pub port : after ≡ behind_command command before

-- The line is neither a command nor `quit`: it has the reply for that, and the port is unchanged.
pub record IsRefused (line : List ℕ) (before : Option PortState) (answer : List ℕ) (after : Option PortState) : Type 0 where
  pub unknown : (command : Command) → IsCommandLine line command → ⊥
  pub no_quit : line ≢ quit_line
  pub text : answer ≡ no_line_answer
  pub port : after ≡ before

-- A line other than `quit` has this reply, and this port after it.
abbrev pub IsAnswered : List ℕ → Option PortState → List ℕ → Option PortState → Type 0
IsAnswered line before answer after = IsDone line before answer after ⊎ IsRefused line before answer after

-- ---- line by line

-- The replies to these lines, one after another.
abbrev pub AreAnswered : Option PortState → List (List ℕ) → List ℕ → Option PortState → Type 0
AreAnswered before [] answers after = (answers ≡ []) × (after ≡ before)
AreAnswered before (line ∷ lines) answers after =
    (answer : List ℕ) × ((rest : List ℕ) × ((between : Option PortState) ×
    (IsAnswered line before answer between × ((answers ≡ answer ++ rest) × AreAnswered between lines rest after))))
