use Rattle.std.proofs.Common.{◌∙◌, arith}
use Rattle.can_gates_controller.proofs.Laid.{standard_identifier, standard_behind}
use Rattle.can_gates_controller.proofs.laying.standard_level.Goals as goal

pub returns-then-place-lt12 : goal.returns-then-place-lt12
returns-then-place-lt12 c = c.literal_at.ensures ∙ standard_identifier c.args.fields.now c.args.bytes.now c.args.place (omega (arith, c.if-place-eq0.false)) c.if-place-lt12.true

pub returns : goal.returns
returns c = c.level_behind.ensures ∙ standard_behind c.args.fields.now c.args.bytes.now c.args.place (omega (arith, c.if-place-lt12.false))
