use Rattle.std.proofs.Common.{◌∙◌, refl, sym}
use Rattle.can_gates.specs.Circuit.{value}
use Rattle.can_gates_mac.proofs.NibbleBits.{nibble-bits}
use Rattle.can_gates_mac.proofs.Drives.{five_bits}
use Rattle.can_gates_controller.proofs.front.ends.Goals as goal

pub returns : goal.returns
returns c = (
  c.and.ensures.made.0 ∙ c.and-due.ensures.made.0 ∙ c.equals-whole.ensures.made.0 ∙ c.frame_length-length.ensures.0,
  λ v keeps.
      let made = c.and.ensures.made.1 v keeps in
      let due = c.and-due.ensures.made.1 v made.0 in
      let whole = c.equals-whole.ensures.made.1 v due.0 in
      let length = c.frame_length-length.ensures.1 v whole.0 in (
        length.0,
        λ front held few.
            let n = c.args.heard.now.run in
            let five = five_bits front.run (value v n.ones) (value v n.twos) (value v n.fours) (value v n.eights) (sym held.run.run ∙ nibble-bits v n) few in
            let is_long = length.1 front.unstuffed held.levels in
            made.1 ∙ rw (whole.1, c.opposite.ensures.value v, due.1, five, is_long, held.count) refl,
      ),
)
