use Rattle.std.proofs.Common.{◌≡◌, ◌++◌, take, drop, map}
use Rattle.can_page.specs.Codes.{trace_byte}
use Rattle.can_page.proofs.levels.write_digits.Given as goal

abbrev pub invariant-loop-code : goal.invariant-loop-code
invariant-loop-code l = l.codes ≡ map trace_byte (take l.code-index l.fn.codes) ++ drop l.code-index l.fn.codes
