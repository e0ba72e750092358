use Rattle.std.proofs.Common.{◌≡◌, ◌∙◌, ◌-◌, length, arith}
use Rattle.std.proofs.lemmas.List.{take_all}
use Rattle.can_wire.specs.Wire.{head}
use Rattle.can_gates.specs.Words.{number}
use Rattle.can_gates.proofs.Constants.{zero-kept}
use Rattle.can_gates_controller.proofs.Own.{frame_len-head}
use Rattle.can_gates_controller.proofs.sending.head_length.Goals as goal

pub returns : goal.returns
returns c = (
  c.lowered.ensures.number.0 ∙ c.frame_length-length.ensures.0,
  λ v keeps.
      let made = c.lowered.ensures.number.1 v keeps in
      let long = c.frame_length-length.ensures.1 v made.0 in
      let zero_is = zero-kept v c.args.circuit.now long.0 in (
        long.0,
        λ f is own.
            let is_long : number v c.frame_length-length.result - 15 ≡ length (head f) = omega (arith, long.1 (head f) own, frame_len-head f is) in
            made.1 ∙ rw (take_all 7 c.constant-fifteen.result (omega (arith, c.constant-fifteen.ensures.places)), c.constant-fifteen.ensures.number v zero_is) is_long,
      ),
)
