use Rattle.std.proofs.Common.{refl}
use Rattle.can_gates.proofs.Constants.{value-never, value-constant}
use Rattle.can_gates.proofs.literal.with_constant.Goals as goal

pub returns-then-known-clause-value : goal.returns-then-known-clause-value
returns-then-known-clause-value c = λ v zero_is. rw (value-constant v c.args.known zero_is c.requires, c.if-known.true) refl

pub returns-else-known-clause-value : goal.returns-else-known-clause-value
returns-else-known-clause-value c = λ v zero_is. rw (value-never v zero_is, value-constant v c.args.known zero_is c.requires, c.if-known.false) refl
