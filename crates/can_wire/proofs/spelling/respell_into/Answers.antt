use Rattle.std.proofs.Common.{◌++◌, length, ap, sym, ◌∙◌, arith, length-append}
use Rattle.can_wire.specs.Crc.{crc_of}
use Rattle.can_wire.specs.Stuffing.{stuffed}
use Rattle.can_wire.specs.Wire.{tail}
use Rattle.can_wire.specs.Heard.{heard_head, ack_slot}
use Rattle.can_wire.proofs.DivisionLemmas.{length-crc_of}
use Rattle.can_wire.proofs.SpellingLemmas.{spelling-spelling_of}
use Rattle.can_wire.proofs.spelling.respell_into.Goals as goal

pub lay_out-part-requires-clause-some : goal.lay_out-part-requires-clause-some
lay_out-part-requires-clause-some c =
    let head = heard_head c.args.heard.now in
    omega (arith, ap length c.head_and_crc-unstuffed.ensures.levels, length-append head (crc_of head), length-crc_of head)

pub returns-clause-levels : goal.returns-clause-levels
returns-clause-levels c =
    let h = c.args.heard.now in
    c.put_tail.ensures ∙ ap (λ l. l ++ tail (ack_slot h.acked) h.last) (c.lay_out-part.ensures.levels ∙ ap stuffed c.head_and_crc-unstuffed.ensures.levels)
    ∙ sym (spelling-spelling_of h)
