use Rattle.std.proofs.Common.{◌∙◌}
use Rattle.can_mac.specs.Machine.{mac_drives}
use Rattle.can_gates.proofs.Constants.{zero-kept, value-never, value-always}
use Rattle.can_gates_mac.specs.Nibbles.{nibble}
use Rattle.can_gates_mac.proofs.Drives.{driven}
use Rattle.can_gates_mac.proofs.driving.drive.Goals as goal

pub returns : goal.returns
unfolding nibble mac_drives
returns c = (
  c.select.ensures.made.0 ∙ c.or-of_slot.ensures.made.0 ∙ c.or-of_part.ensures.made.0 ∙ c.ite-of_sender.ensures.made.0,
  λ v keeps.
      let made = c.select.ensures.made.1 v keeps in
      let of_slot = c.or-of_slot.ensures.made.1 v made.0 in
      let of_part = c.or-of_part.ensures.made.1 v of_slot.0 in
      let of_sender = c.ite-of_sender.ensures.made.1 v of_part.0 in
      let zero_is = zero-kept v c.args.circuit.now of_sender.0 in (
        of_sender.0,
        λ m waiting held drives.
            made.1 ∙ rw held.phase (driven v c.args.sends.now m.phase m.role waiting _ _ _ _ _ _ (value-always v zero_is) (value-never v zero_is) (rw drives.waits at (c.opposite-silent.ensures.value v)) (rw (c.opposite-receiver.ensures.value v, held.sender, of_sender.1, c.opposite-stuff.ensures.value v) at of_part.1) (rw (held.sender, c.opposite-differs.ensures.value v) at of_slot.1) drives.agrees drives.part),
      ),
)
