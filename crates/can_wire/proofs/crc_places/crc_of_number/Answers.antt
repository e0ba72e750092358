use Rattle.std.proofs.Common.{[], ◌*◌, ◌+◌, ◌<◌, ◌∙◌, ap, sym, arith, get_or}
use Rattle.std.proofs.lemmas.Nat.{xor_lt}
use Rattle.can_wire.specs.Crc.{crc_of}
use Rattle.can_wire.specs.declared.crc_table.TheConstants.{CRC_OF_PLACES}
use Rattle.can_wire.proofs.CrcTable.{place_entry-lt}
use Rattle.can_wire.proofs.LevelLemmas.{bits_of-none, bits_of-zero}
use Rattle.can_wire.proofs.CrcBytes.{byte_is, crc_of-byte_more}
use Rattle.can_wire.proofs.Register.{register-crc_of}
use Rattle.can_wire.proofs.crc_places.crc_of_number.Goals as goal

pub loop-place-init : goal.loop-place-init
loop-place-init c = record {
  range = omega arith;
  check = bits_of-none 15 ∙ register-crc_of [] ∙ ap crc_of (sym (bits_of-zero c.args.number));
}

pub loop-place-preserved : goal.loop-place-preserved
loop-place-preserved c =
    let place = c.loop-place.place in
    let byte = c.from.result in
    let within : place < 15 = omega arith in
    let is = c.from.ensures ∙ ap (λ l. get_or l place 0) c.to_le_bytes-bytes.ensures ∙ byte_is place c.args.number (omega arith) in
    let entry = get_or CRC_OF_PLACES (256 * place + byte) 0 in record {
      range = xor_lt 15 c.loop-place.check entry c.loop-place.invariant.range (place_entry-lt place byte within (omega (arith, is)));
      check = crc_of-byte_more place c.args.number c.loop-place.check byte within is c.loop-place.invariant.check;
    }
