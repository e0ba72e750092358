use Rattle.std.proofs.Common.{◌≡◌, length, rules}
use Rattle.can_gates.proofs.Pieces.{both_written}
use Rattle.can_gates.proofs.files.statements.push_signals.Goals as goal

pub returns : goal.returns
returns c =
    let bits = c.args.bits.now in
    let count : c.len.result ≡ length bits.inputs.items = search rules in
    both_written c.args.text.now c.push_wires.new.text c.push_wires-2.new.text c.deref.result.now c.deref-2.result.now bits.inputs.items bits.registers.items c.len.result c.deref.ensures.value c.deref-2.ensures.value count c.push_wires.ensures c.push_wires-2.ensures
