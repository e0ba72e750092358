use Rattle.std.proofs.Common.{◌<◌, ℕ}
use Rattle.can_frame.specs.Levels.{bits_of}
use Rattle.can_longest.proofs.Chosen.{Leads}
use Rattle.can_longest.proofs.wires.LongestWires.longest_octet.Given as goal

-- none of the bytes before this one begins data that make it as long
abbrev pub invariant-loop-octet : goal.invariant-loop-octet
invariant-loop-octet l = (x : ℕ) → x < l.octet → Leads l.left l.fn.begun.heard.last l.fn.begun.heard.run (bits_of 15 l.fn.begun.check) x → ⊥
