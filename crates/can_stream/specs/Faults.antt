-- Which fault a call ended with.
use Rattle.std.specs.Prelude.{Bool, true, false, Result, Ok, Err}
use Rattle.can_stream.specs.declared.fault.TraceFault.{TraceFault}
use Rattle.can_stream.specs.declared.fault.TraceFault.TheVariants.{BadByte, Read, Write, Long, FrameLine, ScenarioField, Memory}

-- whether a read failed
abbrev pub is_read : TraceFault → Bool
is_read (BadByte place) = false
is_read Read = true
is_read Write = false
is_read Long = false
is_read (FrameLine line fault) = false
is_read (ScenarioField wrong) = false
is_read Memory = false

-- whether a write failed
abbrev pub is_write : TraceFault → Bool
is_write (BadByte place) = false
is_write Read = false
is_write Write = true
is_write Long = false
is_write (FrameLine line fault) = false
is_write (ScenarioField wrong) = false
is_write Memory = false

-- whether the result is a fault of this kind
abbrev pub is_err_by : {A : Type 0} → (TraceFault → Bool) → Result A TraceFault → Bool
is_err_by test (Ok done) = false
is_err_by test (Err e) = test e
