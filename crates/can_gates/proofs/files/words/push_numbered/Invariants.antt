use Rattle.std.proofs.Common.{◌≡◌, ◌++◌}
use Rattle.can_gates.specs.Names.{numbered}
use Rattle.can_gates.proofs.files.words.push_numbered.Given as goal

-- the places below this one
abbrev pub invariant-loop-place : goal.invariant-loop-place
invariant-loop-place l = l.out.items ≡ l.fn.out.items ++ numbered l.word l.place
