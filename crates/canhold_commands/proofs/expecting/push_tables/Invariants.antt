use Rattle.std.proofs.Common.{ℕ, List, drop}
use Rattle.canhold_commands.specs.Expectations.{AddTables}
use Rattle.canhold_commands.proofs.expecting.push_tables.Given as goal

-- what is written, followed by the tables of the other cases, is what those of all give
abbrev pub invariant-loop-case : goal.invariant-loop-case
invariant-loop-case l = (after : List ℕ) → AddTables (drop l.case-index l.cases) l.out.items after → AddTables l.cases l.fn.out.items after
