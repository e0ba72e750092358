use Rattle.std.proofs.Common.{◌≡◌, Bool, true, false, cond, refl, ◌∙◌}
use Rattle.can_mac.specs.Moves.{flag}
use Rattle.can_gates.proofs.Constants.{value-never}
use Rattle.can_gates_mac.specs.Numbers.{phase_number, place_number, last_recessive, unacknowledged_of, is_first}
use Rattle.can_gates_mac.proofs.ShownFields.{same_numbers}
use Rattle.can_gates_mac.proofs.senses.Senses.errs_by.Goals as goal

phase_of : (b : Bool) → cond b 8 7 ≡ phase_number (flag b false)
phase_of true = refl
phase_of false = refl

place_of : (b : Bool) → 0 ≡ place_number (flag b false)
place_of true = refl
place_of false = refl

last_of : (b : Bool) → b ≡ last_recessive (flag b false)
last_of true = refl
last_of false = refl

unacknowledged_is : (b : Bool) → false ≡ unacknowledged_of (flag b false)
unacknowledged_is true = refl
unacknowledged_is false = refl

first_is : (b : Bool) → false ≡ is_first (flag b false)
first_is true = refl
first_is false = refl

pub returns : goal.returns
returns c = λ v s p waiting x k role cause kind sender counts tells.
    let never = value-never v k.never in
    same_numbers v _ _ (rw k.passive at (c.flag_of.ensures v k.never) ∙ phase_of s.passive) (c.of.ensures v k.never ∙ place_of s.passive) (k.passive ∙ last_of s.passive) (never ∙ unacknowledged_is s.passive) (never ∙ first_is s.passive) sender k.pending k.used counts tells
