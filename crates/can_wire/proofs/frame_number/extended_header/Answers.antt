use Rattle.std.proofs.Common.{true, ap, ◌∙◌, arith}
use Rattle.can_frame.specs.Ident.{Ident}
use Rattle.can_wire.proofs.FrameNumbers.{extended_bits, raw_small}
use Rattle.can_wire.proofs.frame_number.extended_header.Goals as goal

pub returns-clause-levels : goal.returns-clause-levels
returns-clause-levels c =
    let own = c.args.frame.now.id in
    let raw = c.from-raw.ensures ∙ c.raw.ensures.value ∙ ap (λ (i : Ident). i.raw) c.id.ensures in
    extended_bits c.args.frame.now c.from-raw.result c.control.result c.requires raw (omega (arith, raw, raw_small c.id.result own true c.id.ensures c.requires c.raw.ensures.range)) c.control.ensures.levels c.control.ensures.small
