use Rattle.std.proofs.Common.{◌≡◌, ℕ, ◌+◌, ◌-◌, ◌*◌, ◌≤◌, ◌<◌, ap, arith, refl, rules, subst, sym, ◌∙◌}
use Rattle.can_plan.specs.Messages.{most_hits}
use Rattle.can_plan.specs.Analysis.{IsLeastBound, Ranking, demand, hits_cost, widest}
use Rattle.can_plan.specs.Latest.{end_of}
use Rattle.can_plan.specs.Steps.{IsEnough}
use Rattle.can_plan.proofs.LatestFrames.{delay-to, first-to, none-first, none-to, one-bound}
use Rattle.can_plan.proofs.parts.ranked_latest.Goals as goal

pub returns-in_err-first-clause-latest : goal.returns-in_err-first-clause-latest
returns-in_err-first-clause-latest c =
    let ranking : Ranking = record { higher = c.args.higher.now; message = c.args.message.now; lower = c.args.lower.now } in
    let time : c.from.result ≡ c.blocking-blocking.result + 0 * c.args.message.now.longest = omega (arith, c.from.ensures) in
    let past : (n : ℕ) → IsEnough (most_hits c.args.rate.now) c.blocking-blocking.result c.widest-widest.result c.args.message.now c.args.higher.now 0 n → c.args.limit < n =
    λ n h. c.in_err-first.ensures n (subst (λ t. demand (most_hits c.args.rate.now) t c.widest-widest.result c.args.higher.now (n + 1) ≤ n) (sym time) h) in
    let none : IsLeastBound (most_hits c.args.rate.now) c.args.limit ranking c.args.bound → ⊥ =
    λ told. none-first c.args.rate.now c.args.limit ranking c.blocking-blocking.result c.widest-widest.result c.blocking-blocking.ensures (c.widest-widest.ensures c.args.message.now refl)
    c.requires.first past c.args.bound told.is in
    search (rules, none)

pub returns-in_err-least-clause-latest : goal.returns-in_err-least-clause-latest
returns-in_err-least-clause-latest c =
    let ranking : Ranking = record { higher = c.args.higher.now; message = c.args.message.now; lower = c.args.lower.now } in
    let none : IsLeastBound (most_hits c.args.rate.now) c.args.limit ranking c.args.bound → ⊥ =
    λ told. c.in_err-least.ensures c.args.lower.now c.blocking-blocking.ensures (c.widest-widest.ensures c.args.message.now refl) c.args.bound told.is in
    search (rules, none)

pub returns-then-least-bound-clause-latest : goal.returns-then-least-bound-clause-latest
returns-then-least-bound-clause-latest c = λ told.
    let ranking : Ranking = record { higher = c.args.higher.now; message = c.args.message.now; lower = c.args.lower.now } in
    let least = c.in_ok-least.ensures c.args.lower.now c.blocking-blocking.ensures (c.widest-widest.ensures c.args.message.now refl) in
    c.if-least-bound.true (one-bound (most_hits c.args.rate.now) c.args.limit ranking c.in_ok-least.least c.args.bound least told)

pub returns-in_err-number-clause-latest : goal.returns-in_err-number-clause-latest
returns-in_err-number-clause-latest c =
    let ranking : Ranking = record { higher = c.args.higher.now; message = c.args.message.now; lower = c.args.lower.now } in
    let none : IsLeastBound (most_hits c.args.rate.now) c.args.limit ranking c.args.bound → ⊥ =
    none-to c.args.rate.now c.args.limit ranking c.blocking-blocking.result c.widest-widest.result c.blocking-blocking.ensures (c.widest-widest.ensures c.args.message.now refl)
    c.requires.first c.args.bound c.in_err-number.ensures.first_found in
    search (rules, none)

pub returns-clause-latest : goal.returns-clause-latest
returns-clause-latest c =
    let ranking : Ranking = record { higher = c.args.higher.now; message = c.args.message.now; lower = c.args.lower.now } in
    let most = most_hits c.args.rate.now in
    let number : ℕ = c.in_ok-number.number in
    let found = c.in_ok-number.ensures.first_found in
    let wide : c.widest-widest.result ≡ widest ranking = c.widest-widest.ensures c.args.message.now refl in
    let ends = c.end.ensures ∙ ap (end_of c.args.message.now number) c.from-2.ensures in
    record {
      delay = delay-to c.args.rate.now c.args.limit ranking c.blocking-blocking.result c.widest-widest.result c.blocking-blocking.ensures wide number c.in_ok-number.delay found.0;
      end = ends;
      told = ends ∙ found.1;
      first = first-to c.args.rate.now c.args.limit ranking c.blocking-blocking.result c.widest-widest.result c.blocking-blocking.ensures wide c.args.bound number found.2;
      earlier = ap (λ l. number * l) c.from-3.ensures;
      later = ap (λ l. number * l) c.from-4.ensures;
      hits = c.hits.ensures.value ∙ ap (λ w. most (c.from-long.result + 1 + w - 5)) wide ∙ ap (λ l. most (l + 1 + widest ranking - 5)) c.from-long.ensures;
      cost = c.hits_cost.ensures.value ∙ ap (λ w. hits_cost most w (c.from-long.result + 1)) wide ∙ ap (λ l. hits_cost most (widest ranking) (l + 1)) c.from-long.ensures;
    }

pub returns-clause-least : goal.returns-clause-least
returns-clause-least c =
    let ranking : Ranking = record { higher = c.args.higher.now; message = c.args.message.now; lower = c.args.lower.now } in
    let least = c.in_ok-least.ensures c.args.lower.now c.blocking-blocking.ensures (c.widest-widest.ensures c.args.message.now refl) in
    subst (λ b. IsLeastBound (most_hits c.args.rate.now) c.args.limit ranking b) (let same : c.in_ok-least.least ≡ c.args.bound = omega (arith, c.if-least-bound.false) in same) least
