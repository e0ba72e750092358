use Rattle.std.proofs.Common.{◌∙◌}
use Rattle.can_gates_mac.specs.Nibbles.{nibble}
use Rattle.can_gates_mac.proofs.Dispatch.{PhaseWires, dispatched}
use Rattle.can_gates_mac.proofs.moves.next_move.Goals as goal

pub returns : goal.returns
unfolding nibble
returns c = (
  c.select_wires.ensures.0 ∙ c.suspend-suspend.ensures.0 ∙ c.intermission-intermission.ensures.0 ∙ c.delimiter-delimiter.ensures.0 ∙ c.after_flag-after_flag.ensures.0 ∙ c.overload_flag-overload_flag.ensures.0 ∙ c.passive_flag-passive_flag.ensures.0 ∙ c.error_flag-error_flag.ensures.0 ∙ c.end_of_frame-end_of_frame.ensures.0 ∙ c.ack_delimiter-ack_delimiter.ensures.0 ∙ c.ack_slot-ack_slot.ensures.0 ∙ c.crc_delimiter-crc_delimiter.ensures.0 ∙ c.stuffed_part-part.ensures.0 ∙ c.joining-joining.ensures.0 ∙ c.idle-idle.ensures.0 ∙ c.sense-senses.ensures.0,
  λ v keeps.
      let made = c.select_wires.ensures.1 v keeps in
      let suspend = c.suspend-suspend.ensures.1 v made.0 in
      let intermission = c.intermission-intermission.ensures.1 v suspend.0 in
      let delimiter = c.delimiter-delimiter.ensures.1 v intermission.0 in
      let after_flag = c.after_flag-after_flag.ensures.1 v delimiter.0 in
      let overload_flag = c.overload_flag-overload_flag.ensures.1 v after_flag.0 in
      let passive_flag = c.passive_flag-passive_flag.ensures.1 v overload_flag.0 in
      let error_flag = c.error_flag-error_flag.ensures.1 v passive_flag.0 in
      let end_of_frame = c.end_of_frame-end_of_frame.ensures.1 v error_flag.0 in
      let ack_delimiter = c.ack_delimiter-ack_delimiter.ensures.1 v end_of_frame.0 in
      let ack_slot = c.ack_slot-ack_slot.ensures.1 v ack_delimiter.0 in
      let crc_delimiter = c.crc_delimiter-crc_delimiter.ensures.1 v ack_slot.0 in
      let part = c.stuffed_part-part.ensures.1 v crc_delimiter.0 in
      let joining = c.joining-joining.ensures.1 v part.0 in
      let idle = c.idle-idle.ensures.1 v joining.0 in
      let senses = c.sense-senses.ensures.1 v idle.0 in (
        senses.0,
        λ s p waiting x now phase is_part on.
            let wires : PhaseWires = record { idle = c.idle-idle.result; joining = c.joining-joining.result; stuffed_part = c.stuffed_part-part.result; crc_delimiter = c.crc_delimiter-crc_delimiter.result; ack_slot = c.ack_slot-ack_slot.result; ack_delimiter = c.ack_delimiter-ack_delimiter.result; end_of_frame = c.end_of_frame-end_of_frame.result; error_flag = c.error_flag-error_flag.result; passive_flag = c.passive_flag-passive_flag.result; overload_flag = c.overload_flag-overload_flag.result; after_flag = c.after_flag-after_flag.result; delimiter = c.delimiter-delimiter.result; intermission = c.intermission-intermission.result; suspend = c.suspend-suspend.result } in
            made.1 ∙ rw phase (dispatched v _ _ s p waiting x wires _ (record { idle = idle.1; joining = joining.1; stuffed_part = part.1; crc_delimiter = crc_delimiter.1; ack_slot = ack_slot.1; ack_delimiter = ack_delimiter.1; end_of_frame = end_of_frame.1; error_flag = error_flag.1; passive_flag = passive_flag.1; overload_flag = overload_flag.1; after_flag = after_flag.1; delimiter = delimiter.1; intermission = intermission.1; suspend = suspend.1 }) (senses.1 s p waiting x now) is_part on),
      ),
)
