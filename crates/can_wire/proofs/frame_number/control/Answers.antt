use Rattle.std.proofs.Common.{◌∙◌, arith}
use Rattle.can_wire.proofs.FrameNumbers.{control_bits}
use Rattle.can_wire.proofs.frame_number.control.Goals as goal

pub returns-clause-levels : goal.returns-clause-levels
returns-clause-levels c = control_bits c.is_remote.result c.args.frame.now c.from.result c.from-2.result c.from.ensures c.is_remote.ensures (c.from-2.ensures ∙ c.dlc.ensures.value) (omega (arith, c.from-2.ensures, c.dlc.ensures.range))
