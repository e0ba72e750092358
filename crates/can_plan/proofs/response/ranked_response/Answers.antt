use Rattle.std.proofs.Common.{ℕ, ◌-◌, ◌<◌, ◌≤◌, arith, refl, subst}
use Rattle.std.specs.Prelude.{max, min}
use Rattle.can_plan.specs.Messages.{most_hits}
use Rattle.can_plan.specs.Analysis.{Ranking, blocking, demand}
use Rattle.can_plan.proofs.Bounds.{answers, busy-after, busy-behind, delay-after}
use Rattle.can_plan.proofs.response.ranked_response.Goals as goal

pub busy-requires-clause-begun : goal.busy-requires-clause-begun
busy-requires-clause-begun c =
    let ranking : Ranking = record { higher = c.args.higher.now; message = c.args.message.now; lower = c.args.lower.now } in
    let wide = c.widest-widest.ensures c.args.message.now refl in
    let free : (n : ℕ) → 0 < n → demand (most_hits c.args.rate.now) (max (c.args.message.now.longest - 1) c.blocking-blocking.result) c.widest-widest.result c.args.higher.now n ≤ n → c.args.before ≤ n =
    λ n some h. c.requires.begun n some
    (subst (λ w. demand (most_hits c.args.rate.now) (max (c.args.message.now.longest - 1) (blocking ranking)) w c.args.higher.now n ≤ n) wide
    (subst (λ b. demand (most_hits c.args.rate.now) (max (c.args.message.now.longest - 1) b) c.widest-widest.result c.args.higher.now n ≤ n) c.blocking-blocking.ensures h)) in
    λ n h. c.first_busy-from.ensures n
    (busy-after c.args.rate.now c.blocking-blocking.result c.widest-widest.result c.args.message.now c.args.higher.now c.args.before free c.requires.first n h)
    (λ blocks. busy-behind c.args.rate.now c.blocking-blocking.result c.widest-widest.result c.args.message.now c.args.higher.now c.args.before free c.requires.first c.requires.periodic
    (min c.args.before c.args.limit) n (omega arith) h blocks)

pub latest_end-requires-clause-begun : goal.latest_end-requires-clause-begun
latest_end-requires-clause-begun c =
    let ranking : Ranking = record { higher = c.args.higher.now; message = c.args.message.now; lower = c.args.lower.now } in
    let wide = c.widest-widest.ensures c.args.message.now refl in
    let free : (n : ℕ) → 0 < n → demand (most_hits c.args.rate.now) (max (c.args.message.now.longest - 1) c.blocking-blocking.result) c.widest-widest.result c.args.higher.now n ≤ n → c.args.before ≤ n =
    λ n some h. c.requires.begun n some
    (subst (λ w. demand (most_hits c.args.rate.now) (max (c.args.message.now.longest - 1) (blocking ranking)) w c.args.higher.now n ≤ n) wide
    (subst (λ b. demand (most_hits c.args.rate.now) (max (c.args.message.now.longest - 1) b) c.widest-widest.result c.args.higher.now n ≤ n) c.blocking-blocking.ensures h)) in
    λ n h. c.first_delay-from.ensures n
    (delay-after c.args.rate.now c.blocking-blocking.result c.widest-widest.result c.args.message.now c.args.higher.now c.args.before free c.requires.periodic n h)

pub returns-clause-bound : goal.returns-clause-bound
returns-clause-bound c =
    let ranking : Ranking = record { higher = c.args.higher.now; message = c.args.message.now; lower = c.args.lower.now } in
    let found = c.in-Some.ensures in
    answers c.args.rate.now c.args.limit ranking c.blocking-blocking.result c.widest-widest.result c.blocking-blocking.ensures (c.widest-widest.ensures c.args.message.now refl)
    c.requires.first c.in-Some.long found.0 found.1 c.latest_end.result c.latest_end.ensures
