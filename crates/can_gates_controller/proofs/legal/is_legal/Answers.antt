use Rattle.std.proofs.Common.{◌∙◌, refl}
use Rattle.can_gates_controller.proofs.legal.is_legal.Goals as goal

pub returns : goal.returns
returns c = (
  c.and.ensures.made.0 ∙ c.and-frames.ensures.made.0 ∙ c.and-counted.ensures.made.0 ∙ c.and-on.ensures.made.0 ∙ c.and-state.ensures.made.0 ∙ c.and-phase.ensures.made.0 ∙ c.own_is_legal-own.ensures.0 ∙ c.heard_is_legal-heard.ensures.0 ∙ c.counters_are_legal-counters.ensures.0 ∙ c.wishes_are_legal-wishes.ensures.0 ∙ c.stance_is_legal-stance.ensures.0 ∙ c.marks_are_legal-marks.ensures.0 ∙ c.place_is_legal-place.ensures.0 ∙ c.within-within.ensures.0,
  λ v keeps.
      let made = c.and.ensures.made.1 v keeps in
      let frames = c.and-frames.ensures.made.1 v made.0 in
      let counted = c.and-counted.ensures.made.1 v frames.0 in
      let on = c.and-on.ensures.made.1 v counted.0 in
      let state = c.and-state.ensures.made.1 v on.0 in
      let phase = c.and-phase.ensures.made.1 v state.0 in
      let own = c.own_is_legal-own.ensures.1 v phase.0 in
      let heard = c.heard_is_legal-heard.ensures.1 v own.0 in
      let counters = c.counters_are_legal-counters.ensures.1 v heard.0 in
      let wishes = c.wishes_are_legal-wishes.ensures.1 v counters.0 in
      let stance = c.stance_is_legal-stance.ensures.1 v wishes.0 in
      let marks = c.marks_are_legal-marks.ensures.1 v stance.0 in
      let place = c.place_is_legal-place.ensures.1 v marks.0 in
      let within = c.within-within.ensures.1 v place.0 in (
        within.0,
        λ m h.
            let at = within.1 m.phase h.controller.phase in
            made.1 ∙ rw (on.1, phase.1, state.1, frames.1, counted.1, place.1 m h.is h.controller, marks.1 m h.controller, stance.1 m h.settled h.controller, wishes.1 (rw h.controller.pending h.is.pending) (rw h.controller.used h.is.used), counters.1 m h.is h.controller, heard.1 m.phase h.is.phase at h.heard, own.1 m h at) refl,
      ),
)
