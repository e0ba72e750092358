use Rattle.std.proofs.Common.{◌≡◌, true, false, rules, refl}
use Rattle.can_terms.specs.Hits.{AreTaken}
use Rattle.can_bus.specs.Offers.{AreOffered}
use Rattle.can_bus.proofs.check.check_call.Goals as goal

pub returns-in_err-check-clause-taken : goal.returns-in_err-check-clause-taken
returns-in_err-check-clause-taken c =
    let untaken : AreOffered c.args.ports c.args.offers.now → ⊥ = λ offered. let e : false ≡ true = c.in_err-check.ensures.taken.1 offered in cc in
    (search rules, λ both. absurd (untaken both.0))

pub returns-in_err-check-2-clause-taken : goal.returns-in_err-check-2-clause-taken
returns-in_err-check-2-clause-taken c =
    let untaken : AreTaken c.args.ports c.args.hits.now → ⊥ = λ taken. let e : false ≡ true = c.in_err-check-2.ensures.taken.1 taken in cc in
    (search rules, λ both. absurd (untaken both.1))

pub returns-in_err-check-2-clause-fault : goal.returns-in_err-check-2-clause-fault
returns-in_err-check-2-clause-fault c =
    let offered : AreOffered c.args.ports c.args.offers.now = c.in_ok-check.ensures.taken.0 (refl {a = true}) in
    search rules

pub returns-clause-taken : goal.returns-clause-taken
returns-clause-taken c = (λ ok. (c.in_ok-check.ensures.taken.0 (refl {a = true}), c.in_ok-check-2.ensures.taken.0 (refl {a = true})), λ both. refl {a = true})
