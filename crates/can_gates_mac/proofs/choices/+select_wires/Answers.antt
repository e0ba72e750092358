use Rattle.std.proofs.Common.{◌≡◌, ◌∙◌, arith, suc, length, ◌-◌}
use Rattle.can_gates.proofs.Constants.{zero-kept}
use Rattle.can_gates_mac.specs.Shown.{shown}
use Rattle.can_gates_mac.proofs.Selects.{select_low, select_both}
use Rattle.can_gates_mac.proofs.choices.+select_wires.Goals as goal

pub returns-then-items-half : goal.returns-then-items-half
returns-then-items-half t c =
    let place = c.args.place.now in
    let k = length place - 1 in
    let long : length place ≡ suc k = omega (arith, c.if-place-eq0.false) in (
      c.choose_wires.ensures.0 ∙ c.select_wires-low.ensures.0,
      λ v keeps.
          let made = c.choose_wires.ensures.1 v keeps in
          let low = c.select_wires-low.ensures.1 v made.0 in
          let zero_is = zero-kept v c.args.circuit.now low.0 in
          (low.0, select_low (shown v) v zero_is c.args.items.now place k _ _ c.args.otherwise long (rw c.power-half.ensures at c.if-items-half.true) made.1 low.1),
    )

pub returns : goal.returns
returns t c =
    let place = c.args.place.now in
    let k = length place - 1 in
    let long : length place ≡ suc k = omega (arith, c.if-place-eq0.false) in (
      c.choose_wires-2.ensures.0 ∙ c.select_wires-high.ensures.0 ∙ c.select_wires-low-2.ensures.0,
      λ v keeps.
          let made = c.choose_wires-2.ensures.1 v keeps in
          let high = c.select_wires-high.ensures.1 v made.0 in
          let low = c.select_wires-low-2.ensures.1 v high.0 in
          let zero_is = zero-kept v c.args.circuit.now low.0 in
          (low.0, select_both (shown v) v zero_is c.args.items.now c.split_at.result.0.now c.split_at.result.1.now place k _ _ _ c.args.otherwise long (rw c.power-half.ensures at c.split_at.ensures.front) (rw c.power-half.ensures at c.split_at.ensures.back) made.1 low.1 high.1),
    )
