use Rattle.std.proofs.Common.{◌∙◌, subst}
use Rattle.can_frame.specs.Parts.{Parts}
use Rattle.can_gates_controller.specs.Fields.{HoldsFields}
use Rattle.can_gates_controller.proofs.Follows.{bit_time_follows}
use Rattle.can_gates_controller.proofs.Told.{told_levels}
use Rattle.can_gates_controller.proofs.telling.told_frame.Goals as goal

pub returns : goal.returns
returns c = (
  c.fields_of.ensures.0 ∙ c.choose_levels-levels.ensures.levels.0,
  λ v keeps.
      let made = c.fields_of.ensures.1 v keeps in
      let levels = c.choose_levels-levels.ensures.levels.1 v made.0 in (
        levels.0,
        λ m waiting x f held told.
            let is = told_levels v c.args.held.now m c.choose_levels-levels.result _ f held (bit_time_follows m waiting x).told told levels.1 in
            let P : Parts → Type 0 = HoldsFields v c.fields_of.result in
            subst P is.1.0 (made.1 is.0 is.1.1),
      ),
)
