-- The exit statuses of programs. (docs/CODES.md)
use Rattle.std.specs.Prelude.{ℕ, ◌≡◌, ◌≢◌, ◌⊎◌, Bool, IsTrue, Result, Ok, Err}
use Rattle.can_stream.specs.declared.fault.TraceFault.{TraceFault}
use Rattle.can_stream.specs.declared.fault.TraceFault.TheVariants.{BadByte, ScenarioField, Read, Write, Memory as OutOfMemory, Long, FrameLine}
use Rattle.can_program.specs.declared.fault.WordsFault.{WordsFault}
use Rattle.can_program.specs.declared.fault.WordsFault.TheVariants.{Usage, Memory}

-- 1: the input is refused. 3: a stream failed. 4: memory ran out.
abbrev pub stream_status : TraceFault → ℕ
stream_status (BadByte place) = 1
stream_status (ScenarioField wrong) = 1
stream_status Long = 1
stream_status (FrameLine line fault) = 1
stream_status Read = 3
stream_status Write = 3
stream_status OutOfMemory = 4

-- 2: the words are refused. 4: memory ran out.
abbrev pub words_status : WordsFault → ℕ
words_status Usage = 2
words_status Memory = 4

-- 0 if all was done, otherwise the status of the fault
abbrev pub exit_status : {F : Type 0} → (F → ℕ) → Result (Unit {0}) F → ℕ
exit_status status_of (Ok done) = 0
exit_status status_of (Err fault) = status_of fault

-- the status is 3 exactly if a stream has failed, and it is not 2, which is for words
pub record TellsStreams (reader_failed writer_failed : Bool) (status : ℕ) : Type 0 where
  pub stream_failed : status ≡ 3 → IsTrue reader_failed ⊎ IsTrue writer_failed
  pub write_told : IsTrue writer_failed → status ≡ 3
  pub read_told : IsTrue reader_failed → status ≡ 3
  pub no_misuse : status ≢ 2
