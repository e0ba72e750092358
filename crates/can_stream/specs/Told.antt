-- The input and output of one call, if its reader and its writer state their bytes. (docs/FORMATS.md, "Faults and
-- statuses of the program")
use Rattle.std.specs.Prelude.{ℕ, Bool, false, ◌==◌, ◌&&◌, not, List, Option, Result, Ok, Err}
use Rattle.std.specs.Io.KnownBytes.{Consumes, Appends}

-- The call read the input from its reader, its writer took the output, and `Related` is true of both. What the reader
-- has left and what the writer contains are given before and after the call. If they are unknown, the input or the
-- output may be any.
pub record Told {R W : Type 0}
    (remaining : R → Option (List ℕ)) (before after : R)
    (contents : W → Option (List ℕ)) (held holds : W)
    (Related : List ℕ → List ℕ → Type 0) : Type 0 where
  pub input : List ℕ
  pub output : List ℕ
  pub consumes : Consumes (remaining before) (remaining after) input
  pub appends : Appends (contents held) (contents holds) output
  pub related : Related input output

-- a call with a slice of this length returned that no byte was read or taken, though the slice is not empty
abbrev pub is_nothing : {E : Type 0} → Result ℕ E → ℕ → Bool
is_nothing (Ok n) room = (n == 0) && not (room == 0)
is_nothing (Err e) room = false
