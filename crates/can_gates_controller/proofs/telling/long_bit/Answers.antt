use Rattle.std.proofs.Common.{◌∙◌, arith}
use Rattle.can_gates_controller.proofs.Told.{long_lower, long_upper}
use Rattle.can_gates_controller.proofs.telling.long_bit.Goals as goal

pub returns-then-place-lt18 : goal.returns-then-place-lt18
returns-then-place-lt18 c = c.literal_at.ensures ∙ long_lower c.args.levels.now c.args.place c.if-place-lt18.true

pub returns : goal.returns
returns c = c.literal_at-2.ensures ∙ long_upper c.args.levels.now c.args.place (omega (arith, c.if-place-lt18.false)) c.requires
