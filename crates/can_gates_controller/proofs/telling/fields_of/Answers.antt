use Rattle.std.proofs.Common.{◌≡◌, ◌∙◌, ◌<◌, ℕ, cond, take, drop, get_or, refl, arith}
use Rattle.std.proofs.lemmas.List.{take_all, length-drop}
use Rattle.can_gates.specs.Circuit.{value, never}
use Rattle.can_gates.proofs.Constants.{zero-kept}
use Rattle.can_gates_controller.specs.declared.fields.Fields.{Fields}
use Rattle.can_gates_controller.proofs.Told.{fields_told}
use Rattle.can_gates_controller.proofs.telling.fields_of.Goals as goal

pub returns : goal.returns
returns c = (
  c.clear_behind-bytes.ensures.0 ∙ c.choose_levels-behind.ensures.levels.0 ∙ c.identifier_of-identifier.ensures.number.0,
  λ v keeps.
      let bytes = c.clear_behind-bytes.ensures.1 v keeps in
      let behind = c.choose_levels-behind.ensures.levels.1 v bytes.0 in
      let identifier = c.identifier_of-identifier.ensures.number.1 v behind.0 in
      let zero_is = zero-kept v c.args.circuit.now identifier.0 in
      let levels = c.args.levels.now in
      let rest = c.choose_levels-behind.result in
      let k : Fields = record {
        extended = get_or levels 13 never;
        remote = get_or rest 0 never;
        identifier = c.identifier_of-identifier.result;
        dlc = record { ones = get_or rest 6 never; twos = get_or rest 5 never; fours = get_or rest 4 never; eights = get_or rest 3 never };
        bytes = c.clear_behind-bytes.result;
      } in (
        identifier.0,
        λ u held.
            let chosen : (p : ℕ) → p < 71 → value v (get_or rest p never) ≡ cond (value v (get_or levels 13 never)) (value v (get_or (take 71 (drop 32 levels)) p never)) (value v (get_or (take 91 (drop 12 levels)) p never)) = behind.1 in
            let high = take_all 71 (drop 32 levels) (omega (arith, length-drop 32 levels, c.told-levels)) in
            let low = take_all 91 (drop 12 levels) (omega (arith, length-drop 12 levels, c.told-levels)) in
            fields_told v zero_is k levels rest c.turn_bytes-word.result u held refl c.identifier_of-identifier.ensures.places identifier.1 (λ p h. rw (high, low) at (chosen p h)) refl refl refl refl refl c.turn_bytes-word.ensures bytes.1,
      ),
)
