use Rattle.std.proofs.Common.{◌≡◌, ℕ, ◌+◌, ◌-◌, ◌*◌, ◌≤◌, ap, arith, subst, sym, ◌∙◌}
use Rattle.std.proofs.lemmas.Nat.{le-div}
use Rattle.can_plan.specs.Messages.{most_hits as most_hits_of}
use Rattle.can_plan.specs.Analysis.{arrivals as arrivals_of, demand as demand_of}
use Rattle.can_plan.proofs.Bounds.{Enough, IsSoFar, MayBegin, all-of-them, begin-before, begin-last, first-alone, from-first, least-at, one-more, passed-over}
use Rattle.can_plan.proofs.response.latest_end.Goals as goal

pub loop-q-init : goal.loop-q-init
loop-q-init c =
    let all : c.arrivals-q.result ≡ arrivals_of c.args.message.now c.args.long = c.arrivals-q.ensures.value ∙ ap (arrivals_of c.args.message.now) c.from.ensures in
    let found = c.in_ok-delay.ensures in
    let least = least-at c.args.rate.now c.args.blocking c.args.widest c.args.message.now c.args.higher.now 0 c.from-blocking.result c.in_ok-delay.field-0 (omega arith) found.1 in
    let busy = c.requires.busy.0 in
    let some = le-div 1 (c.args.long + c.args.message.now.jitter + c.args.message.now.period - 1) c.args.message.now.period c.requires.first (omega arith) in
    let alone = first-alone c.args.rate.now c.args.blocking c.args.widest c.args.message.now c.args.higher.now c.args.limit (arrivals_of c.args.message.now c.args.long) c.in_ok-delay.field-0 c.end-bound.result some found.0 least
    (omega (arith, c.end-bound.ensures, c.from-first.ensures)) in
    let last = begin-last c.args.rate.now c.args.blocking c.args.widest c.args.message.now c.args.higher.now c.requires.periodic c.args.long c.requires.busy in (
      subst (λ k. IsSoFar c.args.rate.now c.args.blocking c.args.widest c.args.message.now c.args.higher.now c.args.limit (arrivals_of c.args.message.now c.args.long) c.end-bound.result k) (sym all) alone,
      subst (λ k. MayBegin c.args.rate.now c.args.blocking c.args.widest c.args.message.now c.args.higher.now k c.from-last.result) (sym all) (subst (λ n. MayBegin c.args.rate.now c.args.blocking c.args.widest c.args.message.now c.args.higher.now (arrivals_of c.args.message.now c.args.long) n) (sym c.from-last.ensures) last),
      omega (arith, c.from-last.ensures, c.requires.within),
    )

pub delay-requires-then-longest-eq0-clause-begun : goal.delay-requires-then-longest-eq0-clause-begun
delay-requires-then-longest-eq0-clause-begun c = λ n h.
    let q : ℕ = c.loop-q.q - 1 in
    let found = c.in_ok-delay.ensures in
    let least = least-at c.args.rate.now c.args.blocking c.args.widest c.args.message.now c.args.higher.now 0 c.from-blocking.result c.in_ok-delay.field-0 (omega arith) found.1 in
    let own : q * c.from-longest.result ≡ q * c.args.message.now.longest = ap (λ l. q * l) c.from-longest.ensures in
    let time : c.from-blocking.result + q * c.from-longest.result ≡ c.args.blocking + q * c.args.message.now.longest = omega (arith, own, c.from-blocking.ensures) in
    let enough : Enough c.args.rate.now c.args.blocking c.args.widest c.args.message.now c.args.higher.now q n = subst (λ t. demand_of (most_hits_of c.args.rate.now) t c.args.widest c.args.higher.now (n + 1) ≤ n) time h in
    let from = from-first c.args.rate.now c.args.blocking c.args.widest c.args.message.now c.args.higher.now c.requires.periodic c.in_ok-delay.field-0 least.below q n enough in
    omega (arith, own, c.from-first.ensures)

pub loop-q-preserved-in-loop-q : goal.loop-q-preserved-in-loop-q
loop-q-preserved-in-loop-q c =
    let q : ℕ = c.loop-q.q - 1 in
    let step : c.loop-q.q ≡ q + 1 = omega arith in
    let so_far = subst (λ k. IsSoFar c.args.rate.now c.args.blocking c.args.widest c.args.message.now c.args.higher.now c.args.limit (arrivals_of c.args.message.now c.args.long) c.loop-q.bound k) step c.loop-q.invariant.0 in
    let all : c.arrivals-q.result ≡ arrivals_of c.args.message.now c.args.long = c.arrivals-q.ensures.value ∙ ap (arrivals_of c.args.message.now) c.from.ensures in
    let found = c.in_ok-delay-2.ensures in
    let own : q * c.from-longest.result ≡ q * c.args.message.now.longest = ap (λ l. q * l) c.from-longest.ensures in
    let time : c.from-blocking.result + q * c.from-longest.result ≡ c.args.blocking + q * c.args.message.now.longest = omega (arith, own, c.from-blocking.ensures) in
    let least = least-at c.args.rate.now c.args.blocking c.args.widest c.args.message.now c.args.higher.now q (c.from-blocking.result + q * c.from-longest.result) c.in_ok-delay-2.field-0 time found.1 in
    let is : c.from-last-then-longest-eq0.result ≡ c.in_ok-delay-2.field-0 = c.from-last-then-longest-eq0.ensures in
    let more = one-more c.args.rate.now c.args.blocking c.args.widest c.args.message.now c.args.higher.now c.args.limit (arrivals_of c.args.message.now c.args.long) c.loop-q.bound q c.in_ok-delay-2.field-0 c.end-then-longest-eq0.result
    (omega (arith, all, c.loop-q.auto.q)) so_far found.0 least (omega (arith, is, c.end-then-longest-eq0.ensures)) in (
      subst (λ b. IsSoFar c.args.rate.now c.args.blocking c.args.widest c.args.message.now c.args.higher.now c.args.limit (arrivals_of c.args.message.now c.args.long) b q) (sym c.max-bound.ensures) more,
      begin-before c.args.rate.now c.args.blocking c.args.widest c.args.message.now c.args.higher.now c.requires.periodic q c.from-last-then-longest-eq0.result (subst (λ d. Enough c.args.rate.now c.args.blocking c.args.widest c.args.message.now c.args.higher.now q d) (sym is) least.is),
      omega (arith, is, found.0),
    )

pub loop-q-preserved : goal.loop-q-preserved
loop-q-preserved c =
    let q : ℕ = c.loop-q.q - 1 in
    let step : c.loop-q.q ≡ q + 1 = omega arith in
    let so_far = subst (λ k. IsSoFar c.args.rate.now c.args.blocking c.args.widest c.args.message.now c.args.higher.now c.args.limit (arrivals_of c.args.message.now c.args.long) c.loop-q.bound k) step c.loop-q.invariant.0 in
    let last : ℕ = c.loop-q.last - c.from-longest.result in
    let less : c.loop-q.last - c.args.message.now.longest ≡ last = ap (λ n. c.loop-q.last - n) (sym c.from-longest.ensures) in
    let may = c.loop-q.invariant.1 (omega (arith, c.from-longest.ensures, c.if-longest-eq0.false)) (omega arith) in
    let enough = subst (λ d. Enough c.args.rate.now c.args.blocking c.args.widest c.args.message.now c.args.higher.now q d) less may.1 in
    let within : last ≤ c.args.limit = omega (arith, c.loop-q.invariant.2) in (
      passed-over c.args.rate.now c.args.blocking c.args.widest c.args.message.now c.args.higher.now c.args.limit (arrivals_of c.args.message.now c.args.long) c.loop-q.bound q last c.end.result so_far within enough (omega (arith, c.end.ensures)) c.if-end-bound.false,
      begin-before c.args.rate.now c.args.blocking c.args.widest c.args.message.now c.args.higher.now c.requires.periodic q last enough,
      within,
    )

pub returns : goal.returns
returns c = all-of-them c.args.rate.now c.args.blocking c.args.widest c.args.message.now c.args.higher.now c.args.limit (arrivals_of c.args.message.now c.args.long) c.loop-q.bound c.loop-q.q c.loop-q.invariant.0 c.loop-q-test.false
