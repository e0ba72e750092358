use Rattle.std.proofs.Common.{◌∙◌, refl}
use Rattle.can_code.specs.Front.{heard_level}
use Rattle.can_gates_controller.proofs.FrontPlaces.{heard_short}
use Rattle.can_gates_controller.proofs.front.read.Goals as goal

pub returns : goal.returns
returns c = (
  c.arbitrates-arbitrates.ensures.0 ∙ c.ends-ends.ensures.0 ∙ c.hear.ensures.0,
  λ v keeps.
      let arbitrates = c.arbitrates-arbitrates.ensures.1 v keeps in
      let ends = c.ends-ends.ensures.1 v arbitrates.0 in
      let next = c.hear.ensures.1 v ends.0 in (
        next.0,
        λ role front x held few short seen told.
            let heard = next.1 front x held few short seen in
            (heard.next, record { due = heard.due; repeats = heard.repeats; arbitrates = λ f is. arbitrates.1 ∙ rw (held.count, told.extended f is) refl; sent = told.sent; ends = ends.1 (heard_level front x) heard.next (heard_short front x few) }),
      ),
)
