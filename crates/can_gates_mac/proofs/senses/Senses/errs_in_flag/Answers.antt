use Rattle.std.proofs.Common.{Some, ◌∙◌}
use Rattle.can_terms.specs.declared.event.ErrorKind.TheVariants.{Bit}
use Rattle.can_mac.specs.Moves.{flag_bit_cause}
use Rattle.can_gates_mac.proofs.Roles.{flag_bit_cause_is}
use Rattle.can_gates_mac.proofs.senses.Senses.errs_in_flag.Goals as goal

pub returns : goal.returns
returns c = λ v s p waiting x k. c.errs_by.ensures v s p waiting x k s.role (Some (flag_bit_cause s.role)) Bit k.sender (rw k.sender at (c.flag_bit_cause_of-cause.ensures v k.never) ∙ flag_bit_cause_is s.role) (c.of.ensures v k.never)
