use Rattle.std.proofs.Common.{◌∙◌, arith}
use Rattle.can_gates_controller.proofs.ListPlaces.{wires_at, counters_at, heard_at, own_at}
use Rattle.can_gates_controller.proofs.listing.register_at.Goals as goal

pub returns-then-place-lt20 : goal.returns-then-place-lt20
returns-then-place-lt20 c = c.wire_at.ensures ∙ wires_at c.args.k.now c.args.place c.if-place-lt20.true

pub returns-then-place-lt44 : goal.returns-then-place-lt44
returns-then-place-lt44 c = c.counter_at.ensures ∙ counters_at c.args.k.now c.args.place (omega (arith, c.if-place-lt20.false)) c.if-place-lt44.true

pub returns-then-place-lt174 : goal.returns-then-place-lt174
returns-then-place-lt174 c = c.heard_at.ensures ∙ heard_at c.args.k.now c.args.place (omega (arith, c.if-place-lt44.false)) c.if-place-lt174.true

pub returns : goal.returns
returns c = c.literal_at.ensures ∙ own_at c.args.k.now c.args.place (omega (arith, c.if-place-lt174.false)) c.requires
