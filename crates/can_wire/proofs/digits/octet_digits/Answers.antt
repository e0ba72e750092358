use Rattle.std.proofs.Common.{map, ap, ◌∙◌, arith}
use Rattle.can_frame.specs.Levels.{bits_of, digit_of}
use Rattle.can_wire.proofs.DrivenDigits.{octet_at}
use Rattle.can_wire.proofs.digits.octet_digits.Goals as goal

pub returns : goal.returns
returns c = octet_at c.from.result _ (omega (arith, c.from.ensures, c.requires)) ∙ ap (λ n. map digit_of (bits_of 8 n)) c.from.ensures
