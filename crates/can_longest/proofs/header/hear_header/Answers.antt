use Rattle.std.proofs.Common.{◌≡◌, ◌+◌, ◌-◌, ◌*◌, ◌++◌, [], length, ◌∙◌, ap, arith}
use Rattle.can_frame.specs.declared.level.Level.TheVariants.{Dominant}
use Rattle.can_frame.specs.Parts.{byte_count}
use Rattle.can_wire.specs.Crc.{crc_of}
use Rattle.can_wire.specs.FrameNumber.{header_of}
use Rattle.can_wire.specs.Heard.{heard_head}
use Rattle.can_wire.specs.Stuffing.{stuffed_from}
use Rattle.can_longest.specs.Longest.{with_bytes}
use Rattle.can_longest.proofs.Headers.{header_number, header_of-few, header_of-some, levels_are, levels_count}
use Rattle.can_longest.proofs.header.hear_header.Goals as goal
use Rattle.can_longest.proofs.header.hear_header.Goals.{After-bytes, After-check, After-number_at}

-- how many levels there are
abbrev counted : (c : After-bytes) → c.len.result ≡ length (header_of (with_bytes c.args.id c.args.remote c.args.dlc [])) + 8 * length c.bytes.result.now
counted c =
    let f = c.with_dominant_data-frame.result in
    let all = levels_count c.args.id c.args.remote c.args.dlc (byte_count c.args.remote c.args.dlc) f c.with_dominant_data-frame.ensures c.head-levels.result (c.head-levels.ensures.levels ∙ ap heard_head c.sent.ensures) in
    omega (arith, c.len.ensures, all, ap length c.bytes.ensures.value)

pub overflow_sub-count : goal.overflow_sub-count
overflow_sub-count c = omega (arith, counted c)

pub number_at-requires-clause-width : goal.number_at-requires-clause-width
number_at-requires-clause-width c =
    let f = c.with_dominant_data-frame.result in
    let all = levels_count c.args.id c.args.remote c.args.dlc (byte_count c.args.remote c.args.dlc) f c.with_dominant_data-frame.ensures c.head-levels.result (c.head-levels.ensures.levels ∙ ap heard_head c.sent.ensures) in
    omega (arith, c.len.ensures, all, ap length c.bytes.ensures.value, header_of-few c.args.id c.args.remote c.args.dlc)

pub hear_bits-requires-clause-few : goal.hear_bits-requires-clause-few
hear_bits-requires-clause-few c =
    let f = c.with_dominant_data-frame.result in
    let all = levels_count c.args.id c.args.remote c.args.dlc (byte_count c.args.remote c.args.dlc) f c.with_dominant_data-frame.ensures c.head-levels.result (c.head-levels.ensures.levels ∙ ap heard_head c.sent.ensures) in
    omega (arith, c.len.ensures, all, ap length c.bytes.ensures.value, header_of-few c.args.id c.args.remote c.args.dlc)

pub returns-clause-behind : goal.returns-clause-behind
returns-clause-behind c =
    let f = c.with_dominant_data-frame.result in
    let n = byte_count c.args.remote c.args.dlc in
    let u_is = c.head-levels.ensures.levels ∙ ap heard_head c.sent.ensures in
    let all = levels_count c.args.id c.args.remote c.args.dlc n f c.with_dominant_data-frame.ensures c.head-levels.result u_is in
    let count = c.len.result - 8 * length c.bytes.result.now in
    let count_is : count ≡ length (header_of (with_bytes c.args.id c.args.remote c.args.dlc [])) = omega (arith, c.len.ensures, all, ap length c.bytes.ensures.value) in
    let number = header_number c.args.id c.args.remote c.args.dlc n f c.with_dominant_data-frame.ensures c.head-levels.result u_is count c.number_at.result count_is c.number_at.ensures in
    λ rest.
    let same = ap (λ t. length (stuffed_from Dominant 0 (t ++ rest))) number in
    omega (arith, same, c.hear_bits.ensures.behind rest)

pub returns-clause-check : goal.returns-clause-check
returns-clause-check c =
    let f = c.with_dominant_data-frame.result in
    c.check.ensures.computed ∙ ap crc_of (levels_are c.args.id c.args.remote c.args.dlc (byte_count c.args.remote c.args.dlc) f c.with_dominant_data-frame.ensures c.head-levels.result (c.head-levels.ensures.levels ∙ ap heard_head c.sent.ensures))

pub returns-clause-some : goal.returns-clause-some
returns-clause-some c =
    let f = c.with_dominant_data-frame.result in
    let all = levels_count c.args.id c.args.remote c.args.dlc (byte_count c.args.remote c.args.dlc) f c.with_dominant_data-frame.ensures c.head-levels.result (c.head-levels.ensures.levels ∙ ap heard_head c.sent.ensures) in
    c.hear_bits.ensures.some (omega (arith, c.len.ensures, all, ap length c.bytes.ensures.value, header_of-some c.args.id c.args.remote c.args.dlc))

pub returns-clause-few : goal.returns-clause-few
returns-clause-few c =
    let f = c.with_dominant_data-frame.result in
    let all = levels_count c.args.id c.args.remote c.args.dlc (byte_count c.args.remote c.args.dlc) f c.with_dominant_data-frame.ensures c.head-levels.result (c.head-levels.ensures.levels ∙ ap heard_head c.sent.ensures) in
    omega (arith, c.hear_bits.ensures.few, c.len.ensures, all, ap length c.bytes.ensures.value, header_of-few c.args.id c.args.remote c.args.dlc)
