-- The numbers of the statuses that calls return. The number for a fault of a frame text is that of its code, X1 to X6,
-- plus ten. (docs/CODES.md)
use Rattle.std.specs.Prelude.{◌≡◌, ℕ}
use Rattle.can_frame.specs.declared.text.TextFaultKind.{TextFaultKind}
use Rattle.can_frame.specs.declared.text.TextFaultKind.TheVariants.{KindLetter, Identifier, DataOrRemote, Dlc, Data, Trailing}
use Rattle.can_page.specs.declared.answer.Answer.{Answer}
use Rattle.can_page.specs.declared.answer.Answer.TheVariants.{Done, NoRoom, BadLevel, BadIdentifier, BadDlc, BadCount, BadScenario, NoPort, NoMemory, BadPlan, NoMessage, LetterFault, IdentifierFault, DirectionFault, DlcFault, DataFault, TrailingFault, TooLong}

-- the number of a status
abbrev pub answer_code : Answer → ℕ
answer_code Done = 0
answer_code NoRoom = 1
answer_code BadLevel = 2
answer_code BadIdentifier = 3
answer_code BadDlc = 4
answer_code BadCount = 5
answer_code BadScenario = 6
answer_code NoPort = 7
answer_code NoMemory = 8
answer_code BadPlan = 9
answer_code NoMessage = 10
answer_code LetterFault = 11
answer_code IdentifierFault = 12
answer_code DirectionFault = 13
answer_code DlcFault = 14
answer_code DataFault = 15
answer_code TrailingFault = 16
answer_code TooLong = 17

-- the call has done what it promises
abbrev pub all_done : ℕ
all_done = answer_code Done

-- the output buffer is too small
abbrev pub no_room : ℕ
no_room = answer_code NoRoom

-- a byte or a number is not a level
abbrev pub bad_level : ℕ
bad_level = answer_code BadLevel

-- the identifier is out of range for the kind of frame
abbrev pub bad_identifier : ℕ
bad_identifier = answer_code BadIdentifier

-- the DLC is above 15
abbrev pub bad_dlc : ℕ
bad_dlc = answer_code BadDlc

-- the number of data bytes is not the one that the DLC requires
abbrev pub bad_count : ℕ
bad_count = answer_code BadCount

-- the text is not a valid scenario
abbrev pub bad_scenario : ℕ
bad_scenario = answer_code BadScenario

-- the scenario has no port with this number
abbrev pub no_port : ℕ
no_port = answer_code NoPort

-- memory ran out
abbrev pub no_memory : ℕ
no_memory = answer_code NoMemory

-- the text is not a valid network
abbrev pub bad_plan : ℕ
bad_plan = answer_code BadPlan

-- no message of the network has this name
abbrev pub no_message : ℕ
no_message = answer_code NoMessage

-- no scenario is long enough for the worst case of the message
abbrev pub too_long : ℕ
too_long = answer_code TooLong

-- the status for a fault of a frame text
abbrev pub text_answer : TextFaultKind → Answer
text_answer KindLetter = LetterFault
text_answer Identifier = IdentifierFault
text_answer DataOrRemote = DirectionFault
text_answer Dlc = DlcFault
text_answer Data = DataFault
text_answer Trailing = TrailingFault

-- this is the number of the status for a fault of some frame text
abbrev pub IsTextAnswer : ℕ → Type 0
IsTextAnswer answer = (kind : TextFaultKind) × (answer ≡ answer_code (text_answer kind))
