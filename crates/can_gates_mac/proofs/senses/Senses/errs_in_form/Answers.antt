use Rattle.std.proofs.Common.{◌∙◌}
use Rattle.can_mac.specs.Moves.{form_kind}
use Rattle.can_gates_mac.proofs.Roles.{form_kind_is}
use Rattle.can_gates_mac.proofs.senses.Senses.errs_in_form.Goals as goal

pub returns : goal.returns
returns c = λ v s p waiting x k. c.errs.ensures v s p waiting x k (form_kind s.role) (rw k.sender at (c.form_kind_of.ensures v k.never) ∙ form_kind_is s.role)
