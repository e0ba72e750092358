use Rattle.std.proofs.Common.{◌≡◌, arith, ap, ◌∙◌}
use Rattle.can_wire.specs.Layout.{rtr_place, frame_len, extended_of}
use Rattle.can_code.proofs.reading.frame_len.Goals as goal

pub returns : goal.returns
unfolding frame_len
returns g c =
    let place : c.rtr_place-data_place.result ≡ rtr_place (extended_of (g.B.FrameBits.levels c.args.bits.now)) = c.rtr_place-data_place.ensures ∙ ap rtr_place c.is_extended.ensures in
    (omega (arith, place), omega (arith, place))
