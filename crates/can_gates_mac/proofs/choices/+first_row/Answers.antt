use Rattle.std.proofs.Common.{◌∙◌, arith, length, drop, length-drop, ◌-◌}
use Rattle.std.proofs.lemmas.List.{take_all}
use Rattle.can_gates_mac.proofs.ShownFields.{listed_first}
use Rattle.can_gates_mac.proofs.choices.+first_row.Goals as goal

pub returns : goal.returns
returns t c = (
  c.choose_wires.ensures.0 ∙ c.and-test.ensures.made.0 ∙ c.first_row-rest.ensures.0,
  λ v keeps.
      let made = c.choose_wires.ensures.1 v keeps in
      let test = c.and-test.ensures.made.1 v made.0 in
      let rest = c.first_row-rest.ensures.1 v test.0 in
      let rows = c.args.rows.now in
      (rest.0, listed_first v rows _ _ _ _ _ (omega (arith, c.if-rows-eq0.false)) test.1 (rw (take_all (length rows - 1) (drop 1 rows) (omega (arith, length-drop 1 rows))) at rest.1) made.1),
)
