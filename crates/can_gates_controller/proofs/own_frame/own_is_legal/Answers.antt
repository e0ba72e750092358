use Rattle.std.proofs.Common.{◌≡◌, ◌∙◌, true, refl, sym, ap, subst}
use Rattle.can_frame.specs.Levels.{is_recessive}
use Rattle.can_wire.specs.Wire.{head}
use Rattle.can_mac.specs.State.{IsRole}
use Rattle.can_gates.specs.Circuit.{value}
use Rattle.can_gates.proofs.Constants.{zero-kept, value-always}
use Rattle.can_gates_controller.proofs.Owned.{frame_parts}
use Rattle.can_gates_controller.proofs.OwnLegal.{head_heard, part_fits, own_fits}
use Rattle.can_gates_controller.proofs.own_frame.own_is_legal.Goals as goal

pub returns : goal.returns
returns c = (
  c.ite.ensures.made.0 ∙ c.and-sends.ensures.made.0 ∙ c.or-busy.ensures.made.0 ∙ c.and-legal.ensures.made.0 ∙ c.and-frame.ensures.made.0 ∙ c.or-part.ensures.made.0 ∙ c.sent_is_legal-sent.ensures.0 ∙ c.levels_are_legal-unused.ensures.0 ∙ c.form_is_legal-form.ensures.0 ∙ c.head_length-end.ensures.0,
  λ v keeps.
      let made = c.ite.ensures.made.1 v keeps in
      let sends = c.and-sends.ensures.made.1 v made.0 in
      let busy = c.or-busy.ensures.made.1 v sends.0 in
      let legal = c.and-legal.ensures.made.1 v busy.0 in
      let frame = c.and-frame.ensures.made.1 v legal.0 in
      let part = c.or-part.ensures.made.1 v frame.0 in
      let sent = c.sent_is_legal-sent.ensures.1 v part.0 in
      let unused = c.levels_are_legal-unused.ensures.1 v sent.0 in
      let form = c.form_is_legal-form.ensures.1 v unused.0 in
      let end = c.head_length-end.ensures.1 v form.0 in
      let zero_is = zero-kept v c.args.circuit.now end.0 in (
        end.0,
        λ m held at.
            made.1
            ∙ rw (sends.1, busy.1, at.part, at.end, frame_parts m.phase, held.controller.sender, value-always v zero_is) (own_fits m.phase m.role (value v c.and-legal.result)
            (λ f within role.
            let is = subst IsRole role held.is.role in
            let own = held.own.levels f within role in
            let long = end.1 f is own in
            let received : value v c.or-part.result ≡ true = part.1 ∙ rw (c.opposite.ensures.value v, at.part) (part_fits m.phase (value v c.sent_is_legal-sent.result) (λ front here.
            let heard = held.heard.front front here in
            sent.1 (λ p n m small. heard.levels p small ∙ ap is_recessive (head_heard f front.unstuffed p (held.own.sent f front here role) (rw heard.count at n) (rw long at m)) ∙ sym (own p small)))) in
            legal.1 ∙ rw (frame.1, form.1 f is own, unused.1 (head f) own long, received) refl)),
      ),
)
