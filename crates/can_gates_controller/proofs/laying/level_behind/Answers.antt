use Rattle.std.proofs.Common.{◌∙◌, arith}
use Rattle.can_gates_controller.proofs.Laid.{behind_first, behind_bytes}
use Rattle.can_gates_controller.proofs.laying.level_behind.Goals as goal

pub returns-then-place-lt7 : goal.returns-then-place-lt7
returns-then-place-lt7 c = c.literal_at.ensures ∙ behind_first c.args.fields.now c.args.bytes.now c.args.place c.if-place-lt7.true

pub returns : goal.returns
returns c = c.literal_at-2.ensures ∙ behind_bytes c.args.fields.now c.args.bytes.now c.args.place (omega (arith, c.if-place-lt7.false))
