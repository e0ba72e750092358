use Rattle.std.proofs.Common.{◌∙◌, get_or, refl, sym, arith}
use Rattle.can_wire.specs.Layout.{level_at}
use Rattle.can_code.proofs.FrontLemmas.{IsFront-start}
use Rattle.can_gates.specs.Circuit.{value, never}
use Rattle.can_gates.proofs.Constants.{zero-kept, value-always}
use Rattle.can_gates_controller.proofs.Phases.{is_going}
use Rattle.can_gates_controller.proofs.LegalStates.{front_of, reading_of_end, heard_fits, starts_dominant}
use Rattle.can_gates_controller.proofs.legal.heard_is_legal.Goals as goal

pub returns : goal.returns
returns c = (
  c.ite.ensures.made.0 ∙ c.ite-behind.ensures.made.0 ∙ c.and-end.ensures.made.0 ∙ c.and-part.ensures.made.0 ∙ c.and-levels.ensures.made.0 ∙ c.levels_are_legal-unheard.ensures.0 ∙ c.over_is_legal-over.ensures.0 ∙ c.going_is_legal-going.ensures.0 ∙ c.frame_length-length.ensures.0,
  λ v keeps.
      let made = c.ite.ensures.made.1 v keeps in
      let behind = c.ite-behind.ensures.made.1 v made.0 in
      let end = c.and-end.ensures.made.1 v behind.0 in
      let part = c.and-part.ensures.made.1 v end.0 in
      let levels = c.and-levels.ensures.made.1 v part.0 in
      let unheard = c.levels_are_legal-unheard.ensures.1 v levels.0 in
      let over = c.over_is_legal-over.ensures.1 v unheard.0 in
      let going = c.going_is_legal-going.ensures.1 v over.0 in
      let length = c.frame_length-length.ensures.1 v going.0 in
      let heard = c.args.heard.now in
      let zero_is = zero-kept v c.args.circuit.now length.0 in (
        length.0,
        λ p is at held.
            made.1 ∙ rw (at.part, behind.1, at.end, value-always v zero_is) (heard_fits p (value v c.and-part.result) (value v c.and-end.result)
            (λ e. front_of p _ e (λ front here.
            let f = held.front front here in
            let goes = is_going p front here is in
            let first = starts_dominant (value v c.and-levels.result) (value v (get_or heard.levels 0 never)) (value v c.levels_are_legal-unheard.result) (level_at front.unstuffed 0) (levels.1 ∙ rw (c.opposite.ensures.value v) refl) (unheard.1 front.unstuffed f.levels f.count) (f.levels 0 (omega arith)) (IsFront-start front goes.front) in
            part.1 ∙ rw (going.1 front goes f (length.1 front.unstuffed f.levels), first) refl))
            (λ e. reading_of_end p _ e (λ r here.
            let t = held.told r here in
            let first = starts_dominant (value v c.and-levels.result) (value v (get_or heard.levels 0 never)) (value v c.levels_are_legal-unheard.result) (level_at t.unstuffed 0) (levels.1 ∙ rw (c.opposite.ensures.value v) refl) (unheard.1 t.unstuffed t.levels t.count) (t.levels 0 (omega arith)) t.complete.start in
            end.1 ∙ rw (over.1 (length.1 t.unstuffed t.levels ∙ sym (t.count ∙ t.complete.whole)) t.some t.short, first) refl))),
      ),
)
