use Rattle.std.proofs.Common.{◌∙◌, arith}
use Rattle.can_gates_controller.proofs.Told.{short_at, short_past}
use Rattle.can_gates_controller.proofs.telling.short_bit.Goals as goal

pub returns-then-place-lt11 : goal.returns-then-place-lt11
returns-then-place-lt11 c = c.literal_at.ensures ∙ short_at c.args.levels.now c.args.place c.if-place-lt11.true

pub returns : goal.returns
returns c = short_past c.args.levels.now c.args.place (omega (arith, c.if-place-lt11.false))
