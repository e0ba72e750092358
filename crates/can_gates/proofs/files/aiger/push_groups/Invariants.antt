use Rattle.can_gates.specs.Binary.{groups}
use Rattle.can_gates.proofs.Pieces.{LeavesOf}
use Rattle.can_gates.proofs.files.aiger.push_groups.Given as goal

-- with the groups of what is left, these are all groups
abbrev pub invariant-loop-more : goal.invariant-loop-more
invariant-loop-more l = LeavesOf (groups l.more l.rest) (groups l.most l.number) l.fn.text l.text

abbrev pub decreases-loop-more : goal.decreases-loop-more
decreases-loop-more l = l.more
