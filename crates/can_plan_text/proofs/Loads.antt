-- How long a level keeps the bus: no less in a longer time.
use Rattle.std.proofs.Common.{ℕ, ◌*◌, ◌≤◌, List, [], ◌∷◌, arith}
use Rattle.std.proofs.lemmas.Nat.{mul-le}
use Rattle.std.proofs.lemmas.List.Sums.{sum_by-cons}
use Rattle.can_plan.specs.Analysis.{arrivals}
use Rattle.can_plan.proofs.Growth.{arrivals-grow}
use Rattle.can_plan_text.specs.declared.plan.Planned.{Planned}
use Rattle.can_plan_text.specs.Worst.{load_of}

pub load-grows : (level : List Planned) (a b : ℕ) → a ≤ b → load_of level a ≤ load_of level b
load-grows [] a b less = omega arith
load-grows (p ∷ level) a b less =
    let m = p.message in
    let here = mul-le (arrivals m a) m.longest (arrivals m b) m.longest (arrivals-grow m a b p.periodic less) (omega arith) in
    let rest = load-grows level a b less in
    omega (arith, sum_by-cons (λ (q : Planned). arrivals q.message a * q.message.longest) p level, sum_by-cons (λ (q : Planned). arrivals q.message b * q.message.longest) p level)
