-- A wrapped reader or writer of std, as contracts see it. (docs/ARCHITECTURE.md)
use Rattle.std.specs.Prelude.{Bool}
use Rattle.can_stream.specs.declared.source.FromRead.{FromRead}
use Rattle.can_stream.specs.declared.sink.ToWrite.{ToWrite}

-- the reader that is wrapped
abbrev pub wrapped_reader : {R : Type 0} → FromRead R → R
wrapped_reader s = s.inner

-- whether some read has returned an `Err`
abbrev pub read_failed : {R : Type 0} → FromRead R → Bool
read_failed s = s.failed

-- whether some read into a slice that is not empty has returned `Ok(0)`
abbrev pub read_ended : {R : Type 0} → FromRead R → Bool
read_ended s = s.ended

-- the writer that is wrapped
abbrev pub wrapped_writer : {W : Type 0} → ToWrite W → W
wrapped_writer s = s.inner

-- whether some write has returned an `Err`, or `Ok(0)` for a slice that is not empty
abbrev pub write_failed : {W : Type 0} → ToWrite W → Bool
write_failed s = s.failed
