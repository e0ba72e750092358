use Rattle.std.proofs.Common.{◌≡◌, ◌∙◌, ℕ, zero, suc, get_or, replicate, refl, ap}
use Rattle.can_gates.specs.Circuit.{value, never}
use Rattle.can_gates.proofs.Constants.{value-never}
use Rattle.can_gates_controller.proofs.Phases.{first_level, first_check}
use Rattle.can_gates_controller.proofs.next_front.first_heard.Goals as goal

blank : (n p : ℕ) → get_or (replicate n never) p never ≡ never
blank zero p = refl
blank (suc n) zero = refl
blank (suc n) (suc p) = blank n p

pub returns : goal.returns
returns c = λ v zero_is. record {
  levels = λ p h. ap (value v) (blank 103 p) ∙ first_level v zero_is p;
  count = c.constant.ensures.number v zero_is;
  run = record { last = value-never v zero_is; run = c.of.ensures v zero_is };
  check = λ p h. ap (value v) (blank 15 p) ∙ first_check v zero_is p;
}
