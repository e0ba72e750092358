use Rattle.std.proofs.Common.{Some, ◌∙◌}
use Rattle.can_mac.specs.Moves.{error_cause}
use Rattle.can_gates_mac.proofs.Roles.{error_cause_is}
use Rattle.can_gates_mac.proofs.senses.Senses.errs.Goals as goal

pub returns : goal.returns
returns c = λ v s p waiting x k e kind. c.errs_by.ensures v s p waiting x k s.role (Some (error_cause s.role)) e k.sender (rw k.sender at (c.error_cause_of.ensures v k.never) ∙ error_cause_is s.role) kind
