use Rattle.std.proofs.Common.{◌∙◌, not, refl, subst, ap}
use Rattle.std.proofs.Math.Dec.{eqb}
use Rattle.can_gates_controller.specs.Fronts.{HoldsCheck}
use Rattle.can_gates_controller.proofs.FrontPlaces.{heard_place, heard_count, heard_unstuffed}
use Rattle.can_gates_controller.proofs.front.hear.Goals as goal

pub returns : goal.returns
returns c = (
  c.next_check-check.ensures.0 ∙ c.raised-count.ensures.number.0 ∙ c.written-levels.ensures.0 ∙ c.and-level.ensures.made.0 ∙ c.stuffing-stuffing.ensures.0,
  λ v keeps.
      let check = c.next_check-check.ensures.1 v keeps in
      let count = c.raised-count.ensures.number.1 v check.0 in
      let levels = c.written-levels.ensures.1 v count.0 in
      let level = c.and-level.ensures.made.1 v levels.0 in
      let stuffing = c.stuffing-stuffing.ensures.1 v level.0 in (
        stuffing.0,
        λ front x held few short seen.
            let stuff = stuffing.1 front x held.run few seen in
            let plain = c.opposite-plain.ensures.value v ∙ ap not stuff.0 in
            let is_level = rw (plain, seen) at level.1 in
            record {
              next = record {
                levels = λ p h. levels.1 p h ∙ rw (held.levels p h, held.count, is_level) (heard_place front x (eqb front.run 5) p refl);
                count = count.1 ∙ rw (held.count, plain) (heard_count front x (eqb front.run 5) refl short);
                run = stuff.1.1;
                check = subst (λ u. HoldsCheck v c.next_check-check.result u) (rw plain (heard_unstuffed front x (eqb front.run 5) refl)) (check.1 front.unstuffed x held.check seen);
              };
              due = stuff.0;
              repeats = stuff.1.0;
            },
      ),
)
