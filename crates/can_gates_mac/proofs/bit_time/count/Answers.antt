use Rattle.std.proofs.Common.{ap, sym, ◌∙◌}
use Rattle.can_gates.proofs.Constants.{zero-kept, value-never}
use Rattle.can_gates_mac.specs.Numbers.{numbers}
use Rattle.can_gates_mac.proofs.ShownFields.{same_numbers, pending_of, used_of, cause_of, uncaused, chosen_uncaused}
use Rattle.can_gates_mac.proofs.Counts.{top_is}
use Rattle.can_gates_mac.proofs.Counted.{gone, counting_step, few_causes}
use Rattle.can_gates_mac.proofs.bit_time.count.Goals as goal

pub returns : goal.returns
returns c = (
  c.choose_wires-wires.ensures.0 ∙ c.rec_behind-rec.ensures.rec.0 ∙ c.tec_behind-tec.ensures.tec.0,
  λ v keeps.
      let wires = c.choose_wires-wires.ensures.1 v keeps in
      let rec = c.rec_behind-rec.ensures.rec.1 v wires.0 in
      let tec = c.tec_behind-tec.ensures.tec.1 v rec.0 in
      let zero_is = zero-kept v c.args.circuit.now tec.0 in
      let no = value-never v zero_is in (
        tec.0,
        λ m parts is_move on held low row.
            let moved = c.args.moved.now in
            let cause = cause_of v moved (numbers m) is_move in
            let tec_is = rw (cause, held.tec) at (tec.1 (rw cause (few_causes m.cause)) (rw held.tec low)) in
            let rec_is = rw (cause, held.rec) at (rec.1 (rw cause (few_causes m.cause))) in
            let off = same_numbers v _ (gone m.overloads) (c.of.ensures v zero_is) (c.of-zero.ensures v zero_is) no no no no (pending_of v moved (numbers m) is_move) (used_of v moved (numbers m) is_move) (c.of-zero.ensures v zero_is) (c.of-2.ensures v zero_is) in
            counting_step v _ m parts m.cause _ (sym (top_is v zero_is c.tec_behind-tec.result 8 c.tec_behind-tec.ensures.places)) (chosen_uncaused _ _ _ _ _ _ wires.1 (ap uncaused off) (ap uncaused is_move)) tec_is rec_is held.occurrences low row on,
      ),
)
