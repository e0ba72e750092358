use Rattle.std.proofs.Common.{◌∙◌}
use Rattle.can_gates_mac.proofs.bit_time.choose_controller.Goals as goal

pub returns : goal.returns
returns c = (
  c.choose-occurrences.ensures.number.0 ∙ c.choose-rec.ensures.number.0 ∙ c.choose-tec.ensures.number.0 ∙ c.choose_wires-wires.ensures.0,
  λ v keeps.
      let occurrences = c.choose-occurrences.ensures.number.1 v keeps in
      let rec = c.choose-rec.ensures.number.1 v occurrences.0 in
      let tec = c.choose-tec.ensures.number.1 v rec.0 in
      let wires = c.choose_wires-wires.ensures.1 v tec.0 in
      (wires.0, record { wires = wires.1; tec = tec.1; rec = rec.1; occurrences = occurrences.1 }),
)
