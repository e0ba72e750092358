use Rattle.std.proofs.Common.{◌≡◌, ◌++◌, drop}
use Rattle.canhold_commands.specs.Transcripts.{element_lines}
use Rattle.canhold_commands.proofs.elements.push_elements.Given as goal

-- the other elements would follow what is written
abbrev pub invariant-loop-element : goal.invariant-loop-element
invariant-loop-element g l =
    l.out.items ++ element_lines g.T.Element.text (drop l.element-index l.list) ≡ l.fn.out.items ++ element_lines g.T.Element.text l.fn.list
