use Rattle.can_gates_mac.proofs.NibbleBits.{constant_nibble}
use Rattle.can_gates_mac.proofs.nibble.Nibble.of.Goals as goal

pub returns : goal.returns
returns c = λ v never. constant_nibble v _ c.args.number c.requires (c.lowest.ensures v never) (c.lowest-2.ensures v never) (c.lowest-3.ensures v never) (c.lowest-4.ensures v never)
