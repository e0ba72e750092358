use Rattle.std.proofs.Common.{◌∙◌, arith}
use Rattle.can_gates_controller.proofs.ListPlaces.{levels_at, count_at, last_at, check_at}
use Rattle.can_gates_controller.proofs.listing.heard_at.Goals as goal

pub returns-then-place-lt103 : goal.returns-then-place-lt103
returns-then-place-lt103 c = c.literal_at.ensures ∙ levels_at c.args.k.now c.args.place c.if-place-lt103.true

pub returns-then-place-lt110 : goal.returns-then-place-lt110
returns-then-place-lt110 c = c.literal_at-then-place-lt110.ensures ∙ count_at c.args.k.now c.args.place (omega (arith, c.if-place-lt103.false)) c.if-place-lt110.true

pub returns-then-place-lt115 : goal.returns-then-place-lt115
returns-then-place-lt115 c = c.literal_at-then-place-lt115.ensures ∙ last_at c.args.k.now c.args.place (omega (arith, c.if-place-lt110.false)) c.if-place-lt115.true

pub returns : goal.returns
returns c = c.literal_at-2.ensures ∙ check_at c.args.k.now c.args.place (omega (arith, c.if-place-lt115.false)) c.requires
