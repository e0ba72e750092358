-- A read buffer: what was read and not yet used.
use Rattle.std.specs.Prelude.{◌≡◌, ◌⊎◌, ℕ, ◌^◌, ◌<◌, Bool, true, false, List}
use Rattle.can_stream.specs.declared.fault.TraceFault.{TraceFault}
use Rattle.can_stream.specs.declared.fault.TraceFault.TheVariants.{BadByte, Read, Write, Long, FrameLine, ScenarioField, Memory}

-- the bytes that were read and not yet used, and the number of bytes read in total
pub record Received : Type 0 where
  pub unread : List ℕ
  pub taken : ℕ

-- why no more is read: a read failed, or more than 2^63 bytes were read
abbrev pub StopsReading : TraceFault → Bool → ℕ → Type 0
StopsReading Read failed taken = failed ≡ true
StopsReading Long failed taken = (failed ≡ false) × (2 ^ 63 < taken)
StopsReading Write failed taken = ⊥
StopsReading (BadByte place) failed taken = ⊥
StopsReading (FrameLine line fault) failed taken = ⊥
StopsReading (ScenarioField wrong) failed taken = ⊥
StopsReading Memory failed taken = ⊥

-- this if output is written before each read: the writer may also have failed, and then nothing was read
abbrev pub StopsTurn : TraceFault → Bool → ℕ → Type 0
StopsTurn fault failed taken = ((fault ≡ Write) × (failed ≡ false)) ⊎ StopsReading fault failed taken
