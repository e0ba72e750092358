use Rattle.std.proofs.Common.{refl, inr, max, ◌≡◌, ◌⊎◌, ◌∙◌, ap, arith, Some, subst, sym, Option}
use Rattle.can_gates.specs.declared.lack.Lack.{Lack}
use Rattle.can_gates.specs.declared.lack.Lack.TheVariants.{Room}
use Rattle.can_gates.specs.Lacking.{lack_with}
use Rattle.can_gates.proofs.Constants.{zero-kept}
use Rattle.can_gates.proofs.Lacks.{known_lack}
use Rattle.can_gates.proofs.circuit.Circuit.and.Goals as goal

pub returns-in-Some-clause-made : goal.returns-in-Some-clause-made
returns-in-Some-clause-made c = (refl, λ v keeps. (keeps, c.in-Some.ensures.value v (zero-kept v c.args.self.now keeps)))

pub returns-in-Some-shared-clause-made : goal.returns-in-Some-shared-clause-made
returns-in-Some-shared-clause-made c = (refl, λ v keeps. (keeps, c.in-Some-shared.ensures.value v keeps ∙ c.new-sides.ensures.value v))

pub returns-clause-made : goal.returns-clause-made
returns-clause-made c = (c.gate.ensures.made.0, λ v keeps. let made = c.gate.ensures.made.1 v keeps in (made.0, made.1 ∙ c.new-sides.ensures.value v))

pub returns-clause-lack : goal.returns-clause-lack
returns-clause-lack c = inr (c.gate.ensures.lack ∙ ap (lack_with c.args.self.now) c.new-sides.ensures.signals)

pub returns-clause-serves : goal.returns-clause-serves
returns-clause-serves c = λ has.
    let old = c.args.self.now in
    let signal = max c.args.a.signal c.args.b.signal in
    let is = c.gate.ensures.lack ∙ ap (lack_with old) c.new-sides.ensures.signals in
    (c.gate.ensures.highest, (c.gate.ensures.signal, tt), subst (λ (l : Option Lack). (l ≡ old.lack) ⊎ (l ≡ Some Room)) (sym is) (known_lack old signal (omega (arith, has.0, has.1.0))))
