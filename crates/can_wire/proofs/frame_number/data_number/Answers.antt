use Rattle.std.proofs.Common.{length, refl, ap}
use Rattle.can_wire.proofs.FrameNumbers.{data_bits, data_small}
use Rattle.can_wire.proofs.frame_number.data_number.Goals as goal

pub returns-clause-levels : goal.returns-clause-levels
returns-clause-levels c =
    data_bits c.args.frame.now c.bytes.ensures.whole c.octets.result c.from_be_bytes.result c.octets.ensures c.from_be_bytes.ensures (length c.bytes.result.now) _ (ap length c.bytes.ensures.value) refl

pub returns-clause-small : goal.returns-clause-small
returns-clause-small c =
    data_small c.args.frame.now c.bytes.ensures.whole c.octets.result c.from_be_bytes.result c.octets.ensures c.from_be_bytes.ensures (length c.bytes.result.now) _ c.from_be_bytes.type_inv (ap length c.bytes.ensures.value) refl
