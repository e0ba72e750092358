use Rattle.std.proofs.Common.{◌∙◌, sym, arith}
use Rattle.can_gates.specs.Circuit.{value}
use Rattle.can_gates.proofs.Constants.{zero-kept}
use Rattle.can_gates_mac.proofs.NibbleBits.{nibble-bits}
use Rattle.can_gates_mac.proofs.Drives.{five_bits, repeats_is, heard_run}
use Rattle.can_gates_mac.proofs.driving.stuffing.Goals as goal

pub returns : goal.returns
returns c = (
  c.choose-behind.ensures.0 ∙ c.next-next.ensures.0 ∙ c.and-grows.ensures.made.0 ∙ c.xor-differs.ensures.made.0 ∙ c.and-due.ensures.made.0,
  λ v keeps.
      let behind = c.choose-behind.ensures.1 v keeps in
      let next = c.next-next.ensures.1 v behind.0 in
      let grows = c.and-grows.ensures.made.1 v next.0 in
      let differs = c.xor-differs.ensures.made.1 v grows.0 in
      let due = c.and-due.ensures.made.1 v differs.0 in
      let zero_is = zero-kept v c.args.circuit.now due.0 in (
        due.0,
        λ front x held few seen.
            let n = c.args.run in
            let five = five_bits front.run (value v n.ones) (value v n.twos) (value v n.fours) (value v n.eights) (sym held.run ∙ nibble-bits v n) few in
            let is_due = due.1 ∙ five in
            let is_repeated = repeats_is x front.last _ _ (rw (seen, held.last) at differs.1) (c.opposite-repeats.ensures.value v) in
            let is_next = rw held.run at (next.1 (rw held.run (omega (arith, few)))) in
            (is_due, (is_repeated, heard_run v c.args.seen _ front x _ seen is_next (rw (grows.1, c.opposite-plain.ensures.value v, is_due, is_repeated, c.of.ensures v zero_is) at behind.1))),
      ),
)
