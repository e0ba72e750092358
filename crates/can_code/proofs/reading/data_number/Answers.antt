use Rattle.std.proofs.Common.{◌+◌, ◌-◌, ◌*◌, ◌^◌, ◌∙◌, ap, arith, sym, drop}
use Rattle.std.specs.Int.{to_be_bytes, w64}
use Rattle.can_frame.specs.Parts.{byte_count}
use Rattle.can_wire.specs.Layout.{bytes_from, dlc_of, remote_of, rtr_place}
use Rattle.can_code.proofs.ReadingLemmas.{bytes_read, levels_at-lt}
use Rattle.can_code.proofs.reading.data_number.Goals as goal

pub returns-clause-small : goal.returns-clause-small
returns-clause-small g c =
    let u = g.B.FrameBits.levels c.args.bits.now in
    let place = c.rtr_place-data_place.result + 7 in
    let bits = 8 * c.byte_count.result in
    omega (arith, levels_at-lt u place bits, c.number_at.ensures, ap (λ k. 2 ^ (8 * k)) c.byte_count.ensures.value)

pub returns-clause-bytes : goal.returns-clause-bytes
returns-clause-bytes g c =
    let u = g.B.FrameBits.levels c.args.bits.now in
    let count = c.byte_count.result in
    let place = c.rtr_place-data_place.result + 7 in
    let place_is = ap (λ t. t + 7) (c.rtr_place-data_place.ensures ∙ ap rtr_place c.is_extended.ensures) in
    let count_is = c.byte_count.ensures.value in
    ap (λ k. drop (8 - k) (to_be_bytes w64 c.number_at.result)) (sym count_is)
    ∙ bytes_read u place count c.number_at.result c.byte_count.ensures.range c.number_at.ensures
    ∙ ap (λ k. bytes_from k (drop place u)) count_is ∙ ap (λ k. bytes_from (byte_count (remote_of u) (dlc_of u)) (drop k u)) place_is
