use Rattle.std.proofs.Common.{◌∙◌, arith}
use Rattle.can_gates_controller.proofs.ListPlaces.{format_at, identifier_at, dlc_at, bytes_at}
use Rattle.can_gates_controller.proofs.listing.field_at.Goals as goal

pub returns-then-place-lt2 : goal.returns-then-place-lt2
returns-then-place-lt2 c = c.literal_at.ensures ∙ format_at c.args.k.now c.args.place c.if-place-lt2.true

pub returns-then-place-lt31 : goal.returns-then-place-lt31
returns-then-place-lt31 c = c.literal_at-then-place-lt31.ensures ∙ identifier_at c.args.k.now c.args.place (omega (arith, c.if-place-lt2.false)) c.if-place-lt31.true

pub returns-then-place-lt35 : goal.returns-then-place-lt35
returns-then-place-lt35 c = c.literal_at-then-place-lt35.ensures ∙ dlc_at c.args.k.now c.args.place (omega (arith, c.if-place-lt31.false)) c.if-place-lt35.true

pub returns : goal.returns
returns c = c.literal_at-2.ensures ∙ bytes_at c.args.k.now c.args.place (omega (arith, c.if-place-lt35.false)) c.requires
