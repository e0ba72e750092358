use Rattle.std.proofs.Common.{◌∙◌, arith}
use Rattle.can_gates_controller.proofs.ListPlaces.{tec_at, rec_at, occurrences_at}
use Rattle.can_gates_controller.proofs.listing.counter_at.Goals as goal

pub returns-then-place-lt9 : goal.returns-then-place-lt9
returns-then-place-lt9 c = c.literal_at.ensures ∙ tec_at c.args.k.now c.args.place c.if-place-lt9.true

pub returns-then-place-lt17 : goal.returns-then-place-lt17
returns-then-place-lt17 c = c.literal_at-then-place-lt17.ensures ∙ rec_at c.args.k.now c.args.place (omega (arith, c.if-place-lt9.false)) c.if-place-lt17.true

pub returns : goal.returns
returns c = c.literal_at-2.ensures ∙ occurrences_at c.args.k.now c.args.place (omega (arith, c.if-place-lt17.false)) c.requires
