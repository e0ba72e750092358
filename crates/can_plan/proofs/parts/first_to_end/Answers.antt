use Rattle.std.proofs.Common.{◌≡◌, ◌≢◌, ℕ, ◌+◌, ◌-◌, ◌*◌, ◌<◌, ◌≤◌, ap, arith, rules, subst, sym, ◌∙◌, inl, inr}
use Rattle.std.proofs.lemmas.Bool.{cases_lt}
use Rattle.can_plan.specs.Messages.{most_hits as most_hits_of}
use Rattle.can_plan.specs.Analysis.{arrivals as arrivals_of, demand as demand_of}
use Rattle.can_plan.specs.Latest.{end_of}
use Rattle.can_plan.specs.Steps.{EndsElse, IsEnough, NoneEnds}
use Rattle.can_plan.proofs.Bounds.{earlier, least-at}
use Rattle.can_plan.proofs.parts.first_to_end.Goals as goal

pub returns-in_err-delay-clause-first_found : goal.returns-in_err-delay-clause-first_found
returns-in_err-delay-clause-first_found c =
    let q : ℕ = c.loop-number.number in
    let own : q * c.from-longest.result ≡ q * c.args.message.now.longest = ap (λ l. q * l) c.from-longest.ensures in
    let time : c.from-in-loop-number.result + q * c.from-longest.result ≡ c.args.blocking + q * c.args.message.now.longest = omega (arith, own, c.from-in-loop-number.ensures) in
    let past : (n : ℕ) → q < arrivals_of c.args.message.now c.args.limit → IsEnough (most_hits_of c.args.rate.now) c.args.blocking c.args.widest c.args.message.now c.args.higher.now q n → c.args.limit < n =
    λ n few h. c.in_err-delay.ensures n (subst (λ t. demand_of (most_hits_of c.args.rate.now) t c.args.widest c.args.higher.now (n + 1) ≤ n) (sym time) h) in
    let none : NoneEnds (most_hits_of c.args.rate.now) c.args.blocking c.args.widest c.args.message.now c.args.higher.now c.args.limit c.args.bound = (q, c.loop-number.invariant.0, past) in
    search (rules, none)

pub loop-number-preserved : goal.loop-number-preserved
loop-number-preserved c =
    let q : ℕ = c.loop-number.number in
    let d : ℕ = c.in_ok-delay.delay in
    let own : q * c.from-longest.result ≡ q * c.args.message.now.longest = ap (λ l. q * l) c.from-longest.ensures in
    let time : c.from-in-loop-number.result + q * c.from-longest.result ≡ c.args.blocking + q * c.args.message.now.longest = omega (arith, own, c.from-in-loop-number.ensures) in
    let found = c.in_ok-delay.ensures in
    let least = least-at c.args.rate.now c.args.blocking c.args.widest c.args.message.now c.args.higher.now q (c.from-in-loop-number.result + q * c.from-longest.result) d time found.1 in
    let other : end_of c.args.message.now q d ≢ c.args.bound = λ e. c.if-end-bound.false (c.end.ensures ∙ ap (end_of c.args.message.now q) c.from-in-loop-number-2.ensures ∙ e) in
    let else : EndsElse (most_hits_of c.args.rate.now) c.args.blocking c.args.widest c.args.message.now c.args.higher.now c.args.limit c.args.bound q = (d, found.0, least, other) in (
      λ k less. elim (cases_lt k q) [
        | inl before ↦ c.loop-number.invariant.0 k before
        | inr at ↦
            let same : q ≡ k = omega (arith, at, less) in
            subst (λ n. EndsElse (most_hits_of c.args.rate.now) c.args.blocking c.args.widest c.args.message.now c.args.higher.now c.args.limit c.args.bound n) same else
      ],
      λ n h.
          let before = earlier c.args.rate.now c.args.blocking c.args.widest c.args.message.now c.args.higher.now c.requires.periodic q n h in
          let below = least.below (n - c.args.message.now.longest) before.1 in
          let room = before.0 in
          omega (arith, below, room, c.from-in-loop-number-3.ensures, c.from-longest.ensures),
    )
