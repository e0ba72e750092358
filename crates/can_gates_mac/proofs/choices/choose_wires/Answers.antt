use Rattle.std.proofs.Common.{◌∙◌}
use Rattle.can_gates.specs.Circuit.{value}
use Rattle.can_gates_mac.proofs.ShownFields.{chosen_wires}
use Rattle.can_gates_mac.proofs.choices.choose_wires.Goals as goal

pub returns : goal.returns
returns c = (
  c.choose-event.ensures.0 ∙ c.choose-cause.ensures.0 ∙ c.choose-used.ensures.0 ∙ c.choose-pending.ensures.0 ∙ c.ite-sender.ensures.made.0 ∙ c.ite-first.ensures.made.0 ∙ c.ite-unacknowledged.ensures.made.0 ∙ c.ite-last.ensures.made.0 ∙ c.choose-place.ensures.0 ∙ c.choose-phase.ensures.0,
  λ v keeps.
      let event = c.choose-event.ensures.1 v keeps in
      let cause = c.choose-cause.ensures.1 v event.0 in
      let used = c.choose-used.ensures.1 v cause.0 in
      let pending = c.choose-pending.ensures.1 v used.0 in
      let sender = c.ite-sender.ensures.made.1 v pending.0 in
      let first = c.ite-first.ensures.made.1 v sender.0 in
      let unacknowledged = c.ite-unacknowledged.ensures.made.1 v first.0 in
      let last = c.ite-last.ensures.made.1 v unacknowledged.0 in
      let place = c.choose-place.ensures.1 v last.0 in
      let phase = c.choose-phase.ensures.1 v place.0 in
      (phase.0, chosen_wires v (value v c.args.test) c.args.a c.args.b _ phase.1 place.1 last.1 unacknowledged.1 first.1 sender.1 pending.1 used.1 cause.1 event.1),
)
