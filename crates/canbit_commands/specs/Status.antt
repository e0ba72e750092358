-- The exit status of `canbit`. (docs/CODES.md)
use Rattle.std.specs.Prelude.{ℕ}
use Rattle.can_program.specs.Status.{stream_status}
use Rattle.canbit_commands.specs.declared.fault.CanbitFault.{CanbitFault}
use Rattle.canbit_commands.specs.declared.fault.CanbitFault.TheVariants.{Stream, VectorsDiffer}

-- 1: the input is refused, or vectors differ. 3: a stream failed. 4: memory ran out.
abbrev pub canbit_status : CanbitFault → ℕ
canbit_status VectorsDiffer = 1
canbit_status (Stream fault) = stream_status fault
