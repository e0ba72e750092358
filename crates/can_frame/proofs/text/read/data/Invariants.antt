use Rattle.can_frame.proofs.ReadParts.{ReadBytes}
use Rattle.can_frame.proofs.text.read.data.Given as goal

abbrev pub invariant-loop : goal.invariant-loop
invariant-loop l = ReadBytes l.text l.start l.counter l.place l.bytes.items
