use Rattle.std.proofs.Common.{sym}
use Rattle.can_gates.specs.Circuit.{value}
use Rattle.can_gates.proofs.Constants.{value-never, value-same, value-opposite, same_sign, other_sign, and-same_value, and-other_value}
use Rattle.can_gates.proofs.literal.of_one_signal.Goals as goal

pub returns-then-a-b-clause-value : goal.returns-then-a-b-clause-value
returns-then-a-b-clause-value c = λ v zero_is.
    let a = c.args.a in
    let b = c.args.b in and-same_value (value v a) (value v b) (value-same v a b c.requires (same_sign a.negated b.negated c.if-a-b.true))

pub returns-else-a-b-clause-value : goal.returns-else-a-b-clause-value
returns-else-a-b-clause-value c = λ v zero_is.
    let a = c.args.a in
    let b = c.args.b in
    rw (value-never v zero_is) (sym (and-other_value (value v a) (value v b) (value-opposite v a b c.requires (other_sign a.negated b.negated c.if-a-b.false))))
