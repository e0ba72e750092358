use Rattle.std.proofs.Common.{◌≡◌, length, take, ap, subst, sym, ◌∙◌, arith}
use Rattle.can_wire.specs.Heard.{Spells, spelling}
use Rattle.can_wire.proofs.SpellingLemmas.{Spells-spelling, Spells-only, length-spelling-le}
use Rattle.can_wire.proofs.spelling.respell.Goals as goal

computed : (c : goal.After-truncate) → c.truncate.new.self.items ≡ spelling c.args.heard.now
computed c = c.truncate.ensures.items ∙ ap (take c.respell_into-count.result) c.from-wire.ensures.0 ∙ c.respell_into-count.ensures.levels

pub returns-clause-computed : goal.returns-clause-computed
returns-clause-computed c = computed c

pub returns-clause-spells : goal.returns-clause-spells
returns-clause-spells c =
    let h = c.args.heard.now in
    subst (Spells h) (sym (computed c)) (Spells-spelling h c.respell_into-count.ensures.whole)

pub returns-clause-only : goal.returns-clause-only
returns-clause-only c = λ w s. Spells-only c.args.heard.now w s ∙ sym (computed c)

pub returns-clause-bound : goal.returns-clause-bound
returns-clause-bound c =
    let h = c.args.heard.now in
    omega (arith, length-spelling-le h c.respell_into-count.ensures.whole, ap length (computed c))
