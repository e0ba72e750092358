use Rattle.std.proofs.Common.{◌∙◌, arith}
use Rattle.can_gates_controller.proofs.ListPlaces.{out_first, out_frame, out_tec, out_rec, out_last}
use Rattle.can_gates_controller.proofs.listing.output_at.Goals as goal

pub returns-then-place-lt5 : goal.returns-then-place-lt5
returns-then-place-lt5 c = c.literal_at.ensures ∙ out_first c.args.k.now c.args.place c.if-place-lt5.true

pub returns-then-place-lt104 : goal.returns-then-place-lt104
returns-then-place-lt104 c = c.field_at.ensures ∙ out_frame c.args.k.now c.args.place (omega (arith, c.if-place-lt5.false)) c.if-place-lt104.true

pub returns-then-place-lt113 : goal.returns-then-place-lt113
returns-then-place-lt113 c = c.literal_at-then-place-lt113.ensures ∙ out_tec c.args.k.now c.args.place (omega (arith, c.if-place-lt104.false)) c.if-place-lt113.true

pub returns-then-place-lt121 : goal.returns-then-place-lt121
returns-then-place-lt121 c = c.literal_at-then-place-lt121.ensures ∙ out_rec c.args.k.now c.args.place (omega (arith, c.if-place-lt113.false)) c.if-place-lt121.true

pub returns : goal.returns
returns c = c.literal_at-2.ensures ∙ out_last c.args.k.now c.args.place (omega (arith, c.if-place-lt121.false))
