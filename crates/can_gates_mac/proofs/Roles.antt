-- Cause and event, by a controller's role.
use Rattle.std.specs.Prelude.{◌≡◌, ◌&&◌, if◌then◌else◌, Some, refl}
use Rattle.can_mac.specs.declared.phase.Role.{Role}
use Rattle.can_mac.specs.declared.phase.Role.TheVariants.{Receiver, Sender}
use Rattle.can_mac.specs.declared.moves.Stance.{Stance}
use Rattle.can_terms.specs.Codes.{error_code}
use Rattle.can_mac.specs.Moves.{is_held_back, error_cause, flag_bit_cause, form_kind}
use Rattle.can_gates_mac.specs.Numbers.{is_sender, cause_number}

pub error_cause_is : (role : Role) → (if is_sender role then 3 else 1) ≡ cause_number (Some (error_cause role))
error_cause_is Receiver = refl
error_cause_is (Sender f) = refl

pub flag_bit_cause_is : (role : Role) → (if is_sender role then 3 else 2) ≡ cause_number (Some (flag_bit_cause role))
flag_bit_cause_is Receiver = refl
flag_bit_cause_is (Sender f) = refl

pub form_kind_is : (role : Role) → (if is_sender role then 4 else 7) ≡ error_code (form_kind role)
form_kind_is Receiver = refl
form_kind_is (Sender f) = refl

pub held_back_is : (s : Stance) (role : Role) → (is_sender role && s.passive) ≡ is_held_back s role
held_back_is s Receiver = refl
held_back_is s (Sender f) = refl
