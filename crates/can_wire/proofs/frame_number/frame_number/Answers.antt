use Rattle.std.proofs.Common.{◌+◌, ◌*◌, ◌%◌, ◌^◌, ◌<◌, length, ap, sym, subst, ◌∙◌}
use Rattle.can_frame.specs.Levels.{bits_of}
use Rattle.can_wire.specs.Crc.{crc_of}
use Rattle.can_wire.proofs.FrameNumbers.{head_fits, whole_bits, whole_small}
use Rattle.can_wire.proofs.frame_number.frame_number.Goals as goal

pub crc_of_number-check-requires : goal.crc_of_number-check-requires
crc_of_number-check-requires c =
    let h = c.header_number-header in
    let d = c.data_number in
    subst (λ x. x < 2 ^ 120) (λ i. sym c.from.ensures i * 2 ^ (8 * length c.bytes.result.now) % 2 ^ 128 + sym c.from-2.ensures i)
    (head_fits c.args.frame.now c.bytes.ensures.whole h.result.count (length c.bytes.result.now) h.result.number d.result h.ensures.few (ap length c.bytes.ensures.value) h.ensures.small d.ensures.small)

pub returns-clause-levels : goal.returns-clause-levels
returns-clause-levels c =
    let h = c.header_number-header in
    let d = c.data_number in
    let k = length c.bytes.result.now in
    let check = c.crc_of_number-check in
    (λ i. bits_of (h.result.count + 8 * k + 15) ((c.from.ensures i * 2 ^ (8 * k) % 2 ^ 128 + c.from-2.ensures i) * 2 ^ 15 % 2 ^ 128 + c.from-3.ensures i))
    ∙ whole_bits c.args.frame.now c.bytes.ensures.whole h.result.count k h.result.number d.result h.ensures.few (ap length c.bytes.ensures.value) h.ensures.small d.ensures.small
    check.result check.ensures.range h.ensures.levels d.ensures.levels (check.ensures.check ∙ (λ i. crc_of (bits_of 120 (c.from.ensures i * 2 ^ (8 * k) % 2 ^ 128 + c.from-2.ensures i))))

pub returns-clause-small : goal.returns-clause-small
returns-clause-small c =
    let h = c.header_number-header in
    let d = c.data_number in
    let k = length c.bytes.result.now in
    let check = c.crc_of_number-check in
    subst (λ x. x < 2 ^ (h.result.count + 8 * k + 15)) (λ i. (sym c.from.ensures i * 2 ^ (8 * k) % 2 ^ 128 + sym c.from-2.ensures i) * 2 ^ 15 % 2 ^ 128 + sym c.from-3.ensures i)
    (whole_small c.args.frame.now c.bytes.ensures.whole h.result.count k h.result.number d.result h.ensures.few (ap length c.bytes.ensures.value) h.ensures.small d.ensures.small check.result check.ensures.range)
