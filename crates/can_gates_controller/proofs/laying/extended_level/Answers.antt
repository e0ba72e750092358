use Rattle.std.proofs.Common.{◌∙◌, arith}
use Rattle.can_gates_controller.proofs.Laid.{extended_upper, extended_recessive, extended_lower, extended_behind}
use Rattle.can_gates_controller.proofs.laying.extended_level.Goals as goal

pub returns-then-place-lt12 : goal.returns-then-place-lt12
returns-then-place-lt12 c = c.literal_at.ensures ∙ extended_upper c.args.fields.now c.args.bytes.now c.args.place (omega (arith, c.if-place-eq0.false)) c.if-place-lt12.true

pub returns-then-place-lt14 : goal.returns-then-place-lt14
returns-then-place-lt14 c = extended_recessive c.args.fields.now c.args.bytes.now c.args.place (omega (arith, c.if-place-lt12.false)) c.if-place-lt14.true

pub returns-then-place-lt32 : goal.returns-then-place-lt32
returns-then-place-lt32 c = c.literal_at-then-place-lt32.ensures ∙ extended_lower c.args.fields.now c.args.bytes.now c.args.place (omega (arith, c.if-place-lt14.false)) c.if-place-lt32.true

pub returns : goal.returns
returns c = c.level_behind.ensures ∙ extended_behind c.args.fields.now c.args.bytes.now c.args.place (omega (arith, c.if-place-lt32.false))
