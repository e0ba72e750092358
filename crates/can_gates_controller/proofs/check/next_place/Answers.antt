use Rattle.std.proofs.Common.{◌∙◌, ◌+◌, sym, ap, arith}
use Rattle.can_frame.specs.Levels.{is_recessive}
use Rattle.can_gates.proofs.Constants.{value-never}
use Rattle.can_gates_controller.proofs.Checks.{crc_past}
use Rattle.can_gates_controller.proofs.check.next_place.Goals as goal

pub returns-then-place-eq14 : goal.returns-then-place-eq14
returns-then-place-eq14 c = λ v u zero_is held. value-never v zero_is ∙ ap is_recessive (sym (crc_past u (c.args.place + 1) (omega (arith, c.if-place-eq14.true))))

pub returns : goal.returns
returns c = λ v u zero_is held. held (c.args.place + 1) (omega (arith, c.requires, c.if-place-eq14.false))
