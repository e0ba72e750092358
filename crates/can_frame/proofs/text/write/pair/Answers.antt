use Rattle.std.proofs.Common.{ap, ◌∙◌}
use Rattle.std.specs.Int.{to_le_bytes, w16}
use Rattle.can_frame.proofs.Written.{pair_digits}
use Rattle.can_frame.proofs.text.write.pair.Goals as goal

pub returns-clause-digits : goal.returns-clause-digits
returns-clause-digits c = ap (to_le_bytes w16) c.from.ensures ∙ pair_digits c.args.number
