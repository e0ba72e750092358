-- The effect of encoding one line, and the output when all lines are done or a fault occurred.
use Rattle.std.specs.Prelude.{◌≡◌, ℕ, Bool, List, [], Option, Result, Ok, Err}
use Rattle.std.specs.Io.KnownBytes.{Keeps}
use Rattle.can_frame.specs.Parts.{Parts, IsFrame}
use Rattle.can_frame.specs.Text.{frame_text, IsFrameText, IsTextFault}
use Rattle.can_stream.specs.declared.fault.TraceFault.{TraceFault}
use Rattle.can_stream.specs.declared.fault.TraceFault.TheVariants.{BadByte, Read, Write, Long, FrameLine, ScenarioField, Memory}
use Rattle.can_stream.specs.Outbox.{PassesOn, TakesFront}
use Rattle.can_texts.specs.Coded.{coded_line, EncodesAll, EncodesEnded, EncodesTooLong, BeginsEncoding, IsFirstBadLine}

-- the line is the text of a frame, whose levels were appended to the buffer
pub record EncodesLine (line : List ℕ) (held holds : Option (List ℕ)) (old new : List ℕ) : Type 0 where
  pub frame : Parts
  pub is_frame : IsFrame frame
  pub text : frame_text frame ≡ line
  pub passes : PassesOn held holds old new (coded_line frame)

-- The line with this number was not encoded: the writer failed, or the line is not a frame text.
abbrev pub FailsToAnswer : TraceFault → ℕ → List ℕ → Option (List ℕ) → Option (List ℕ) → List ℕ → List ℕ → Type 0
FailsToAnswer Write number line held holds old new = TakesFront held holds old × (new ≡ [])
FailsToAnswer (FrameLine n fault) number line held holds old new = (n ≡ number) × (¬ IsFrameText line) × IsTextFault line fault × Keeps held holds × (new ≡ old)
FailsToAnswer (BadByte place) number line held holds old new = ⊥
FailsToAnswer Read number line held holds old new = ⊥
FailsToAnswer Long number line held holds old new = ⊥
FailsToAnswer (ScenarioField wrong) number line held holds old new = ⊥
FailsToAnswer Memory number line held holds old new = ⊥

-- The output for the input, if a call ends with this result. A line may contain any byte here.
abbrev pub Encodes : {A : Type 0} → Result A TraceFault → Bool → List ℕ → List ℕ → Type 0
Encodes (Ok done) reader_ended = EncodesAll
Encodes (Err (BadByte place)) reader_ended = λ input output. ⊥
Encodes (Err Read) reader_ended = EncodesEnded
Encodes (Err Write) reader_ended = BeginsEncoding reader_ended
Encodes (Err Long) reader_ended = EncodesTooLong
Encodes (Err (FrameLine n fault)) reader_ended = IsFirstBadLine n fault reader_ended
Encodes (Err (ScenarioField wrong)) reader_ended = λ input output. ⊥
Encodes (Err Memory) reader_ended = λ input output. ⊥
