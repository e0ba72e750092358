use Rattle.std.proofs.Common.{◌≡◌, ◌-◌, ◌*◌, ◌^◌, true, false, [], drop, min, sym, ◌∙◌, ap, arith}
use Rattle.std.specs.Int.{to_be_bytes, w64}
use Rattle.can_frame.specs.Parts.{byte_count}
use Rattle.can_wire.specs.Layout.{bytes_from, data_place, extended_of, remote_of, dlc_of, frame_of}
use Rattle.can_code.specs.Reading.{bytes_of}
use Rattle.can_code.proofs.reading.frame.Goals as goal

pub data_of_number-requires-clause-small : goal.data_of_number-requires-clause-small
data_of_number-requires-clause-small g c =
    let u = g.B.FrameBits.levels c.args.bits.now in
    let told : remote_of u ≡ false = sym c.is_remote.ensures ∙ c.if-is_remote.false in
    let count : byte_count (remote_of u) (dlc_of u) ≡ min c.dlc-dlc.result 8 = ap (λ r. byte_count r (dlc_of u)) told ∙ ap (λ n. min n 8) (sym c.dlc-dlc.ensures.value) in
    omega (arith, c.data_number.ensures.small, ap (λ k. 2 ^ (8 * k)) count)

pub returns-then-is_remote : goal.returns-then-is_remote
unfolding frame_of
returns-then-is_remote g c =
    let u = g.B.FrameBits.levels c.args.bits.now in
    let told : remote_of u ≡ true = sym c.is_remote.ensures ∙ c.if-is_remote.true in
    let none : bytes_of u ≡ [] = ap (λ r. bytes_from (byte_count r (dlc_of u)) (drop (data_place (extended_of u)) u)) told in
    let parts = rw c.unwrap.ensures at c.remote.ensures.parts in
    cc

pub returns-else-is_remote : goal.returns-else-is_remote
unfolding frame_of
returns-else-is_remote g c =
    let u = g.B.FrameBits.levels c.args.bits.now in
    let told : remote_of u ≡ false = sym c.is_remote.ensures ∙ c.if-is_remote.false in
    let count : min c.dlc-dlc.result 8 ≡ byte_count (remote_of u) (dlc_of u) = ap (λ n. min n 8) c.dlc-dlc.ensures.value ∙ ap (λ r. byte_count r (dlc_of u)) (sym told) in
    let bytes = ap (λ k. drop (8 - k) (to_be_bytes w64 c.data_number.result)) count ∙ c.data_number.ensures.bytes in
    let made = c.data_of_number.ensures in
    cc
