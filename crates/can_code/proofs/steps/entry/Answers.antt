use Rattle.std.proofs.Common.{◌+◌, ◌*◌, ◌%◌, ap, ◌∙◌, arith}
use Rattle.std.proofs.lemmas.Nat.{one_shl}
use Rattle.can_code.proofs.StepTable.{entry_is}
use Rattle.can_code.proofs.steps.entry.Goals as goal

pub bounds-column : goal.bounds-column
bounds-column c =
    let top = one_shl c.args.count 64 (omega (arith, c.requires.few)) in
    let place = ap (λ t. 10 * (t + c.args.levels % t) + c.from.result) top in
    (entry_is c.args.row c.args.levels c.args.count _ c.requires.row c.requires.few (place ∙ omega (arith, c.from.ensures))).0

pub returns : goal.returns
returns c =
    let top = one_shl c.args.count 64 (omega (arith, c.requires.few)) in
    let place = ap (λ t. 10 * (t + c.args.levels % t) + c.from.result) top in
    (entry_is c.args.row c.args.levels c.args.count _ c.requires.row c.requires.few (place ∙ omega (arith, c.from.ensures))).1
