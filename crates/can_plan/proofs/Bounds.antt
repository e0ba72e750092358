-- The least bound, from a delay of each frame.
use Rattle.std.proofs.Common.{◌≡◌, ℕ, zero, suc, ◌+◌, ◌-◌, ◌*◌, ◌<◌, ◌≤◌, List, ◌∷◌, sym, subst, ap, inl, inr, arith}
use Rattle.std.specs.Prelude.{max, MatchOption, Option, Some, None}
use Rattle.std.proofs.lemmas.Bool.{cases_lt}
use Rattle.std.proofs.lemmas.Nat.{le-div, mul-le}
use Rattle.can_plan.specs.declared.message.HitRate.{HitRate}
use Rattle.can_plan.specs.declared.message.Message.{Message}
use Rattle.can_plan.specs.Messages.{ArePeriodic, most_hits}
use Rattle.can_plan.specs.Analysis.{Ranking, arrivals, blocking, widest, demand, delayed, busied, IsBound, IsLeast, IsLeastBound}
use Rattle.can_plan.specs.Steps.{AllEnd, ForRanking, IsBusy, IsEnough}
use Rattle.can_plan.proofs.Growth.{arrivals-grow, demand-cons, demand-grows}

module _ (rate : HitRate) (block wide : ℕ) (m : Message) (higher : List Message) where
  abbrev pub Enough : ℕ → ℕ → Type 0
  Enough q n = IsEnough (most_hits rate) block wide m higher q n

  abbrev Busy : ℕ → Type 0
  Busy n = IsBusy (most_hits rate) block wide m higher n

  -- what was enough for a frame leaves enough for the one before it
  pub earlier : ArePeriodic higher → (q d : ℕ) → Enough (q + 1) d → (m.longest ≤ d) × Enough q (d - m.longest)
  earlier periodic q d enough =
      let grows = demand-grows rate (block + q * m.longest) wide higher (d - m.longest + 1) (d + 1) periodic (omega arith) in
      (omega arith, omega arith)

  -- no frame has less delay than the first, and the time on the bus of those before it
  pub from-first : ArePeriodic higher → (first : ℕ) → ((n : ℕ) → Enough 0 n → first ≤ n) → (q n : ℕ) → Enough q n → first + q * m.longest ≤ n
  from-first periodic first least zero n enough = let l = least n enough in omega arith
  from-first periodic first least (suc q) n enough =
      let step : suc q ≡ q + 1 = omega arith in
      let at = earlier periodic q n (subst (λ k. Enough k n) step enough) in
      let before = from-first periodic first least q (n - m.longest) at.1 in
      let product : suc q * m.longest ≡ (q + 1) * m.longest = ap (λ k. k * m.longest) step in
      let room = at.0 in
      omega arith

  -- so late as this the frame before this number may begin
  abbrev pub MayBegin : ℕ → ℕ → Type 0
  MayBegin q last = 0 < m.longest → 0 < q → (m.longest ≤ last) × Enough (q - 1) (last - m.longest)

  pub begin-last : ArePeriodic higher → (long : ℕ) → Busy long → MayBegin (arrivals m long) long
  begin-last periodic long busy some few =
      let h = busy.1 in
      let e = demand-cons rate block wide m higher long in
      let whole : arrivals m long ≡ arrivals m long - 1 + 1 = omega arith in
      let parts : arrivals m long * m.longest ≡ (arrivals m long - 1 + 1) * m.longest = ap (λ k. k * m.longest) whole in
      let grows = demand-grows rate (block + (arrivals m long - 1) * m.longest) wide higher (long - m.longest + 1) long periodic (omega arith) in
      (omega arith, omega arith)

  pub begin-before : ArePeriodic higher → (q d : ℕ) → Enough q d → MayBegin q d
  begin-before periodic q d enough some few =
      let step : q ≡ q - 1 + 1 = omega arith in
      earlier periodic (q - 1) d (subst (λ k. Enough k d) step enough)

  -- a busy period has the time on the bus of the first frame within it
  pub busy-first : ArePeriodic higher → 0 < m.period → 0 < m.longest → (first : ℕ) → ((n : ℕ) → Enough 0 n → first ≤ n) → (n : ℕ) → Busy n → first + m.longest ≤ n
  busy-first periodic repeated some first least n busy =
      let long = busy.0 in
      let few = le-div 1 (n + m.jitter + m.period - 1) m.period repeated (omega arith) in
      let last = begin-last periodic n busy some (omega arith) in
      let within = last.0 in
      let from = from-first periodic first least (arrivals m n - 1) (n - m.longest) last.1 in
      omega arith

  -- what is known of the higher-priority messages, with this one or a lower one that blocks them
  module _ (before : ℕ) (free : (n : ℕ) → 0 < n → demand (most_hits rate) (max (m.longest - 1) block) wide higher n ≤ n → before ≤ n) where
    pub busy-after : 0 < m.period → (n : ℕ) → Busy n → before ≤ n
    busy-after some n busy =
        let e = demand-cons rate block wide m higher n in
        let h = busy.1 in
        let long = busy.0 in
        let one = le-div 1 (n + m.jitter + m.period - 1) m.period some (omega arith) in
        let own = mul-le 1 m.longest (arrivals m n) m.longest one (omega arith) in
        free n long (omega arith)

    pub busy-behind : 0 < m.period → ArePeriodic higher → (at n : ℕ) → at ≤ before → Busy n → 0 < max (m.longest - 1) block → before + arrivals m at * m.longest ≤ n + (max (m.longest - 1) block - block)
    busy-behind some periodic at n early busy blocks =
        let e = demand-cons rate block wide m higher n in
        let h = busy.1 in
        let after = busy-after some n busy in
        let few = arrivals-grow m at n some (omega arith) in
        let own = mul-le (arrivals m at) m.longest (arrivals m n) m.longest few (omega arith) in
        elim (cases_lt (max (m.longest - 1) block - block) (arrivals m at * m.longest)) [
          | inl more ↦
              let left : ℕ = n + (max (m.longest - 1) block - block) - arrivals m at * m.longest in
              let grows = demand-grows rate (max (m.longest - 1) block) wide higher left n periodic (omega arith) in
              let enough : demand (most_hits rate) (max (m.longest - 1) block) wide higher left ≤ left = omega arith in
              let least = free left (omega arith) enough in
              omega arith
          | inr none ↦ omega arith
        ]

    pub delay-after : ArePeriodic higher → (n : ℕ) → Enough 0 n → 0 < block → m.longest ≤ block + 1 → before ≤ n
    delay-after periodic n enough blocks short =
        let grows = demand-grows rate block wide higher n (n + 1) periodic (omega arith) in
        let same : max (m.longest - 1) block ≡ block = omega arith in
        let at : demand (most_hits rate) block wide higher n ≤ n = omega arith in
        free n (omega arith) (subst (λ b. demand (most_hits rate) b wide higher n ≤ n) (sym same) at)

  -- the least delay, by the time that it counts
  pub least-at : (q time d : ℕ) → time ≡ block + q * m.longest → IsLeast (λ n. demand (most_hits rate) time wide higher (n + 1) ≤ n) d → IsLeast (Enough q) d
  least-at q time d is least = subst (λ t. IsLeast (λ n. demand (most_hits rate) t wide higher (n + 1) ≤ n) d) is least

  module _ (limit count : ℕ) where
    -- the frame ends within the bound
    abbrev pub Ends : ℕ → ℕ → Type 0
    Ends bound q = (d : ℕ) × (d ≤ limit) × Enough q d × (m.jitter + d + m.longest ≤ bound + 3 + q * m.period)

    -- the first frame, and those from a number on, end within the bound, and no lesser bound would do for all
    abbrev pub IsSoFar : ℕ → ℕ → Type 0
    IsSoFar bound q = Ends bound 0 × ((k : ℕ) → q ≤ k → k < count → Ends bound k) × ((other : ℕ) → AllEnd (most_hits rate) block wide m higher limit count other → bound ≤ other)

    pub first-alone : (d end : ℕ) → 0 < count → d ≤ limit → IsLeast (Enough 0) d → end ≡ m.jitter + d + m.longest - (3 + 0 * m.period) → IsSoFar end count
    first-alone d end some within least is = (
      (d, within, least.is, omega arith),
      (λ k from to. absurd (omega arith)),
      λ other all.
          let one = all 0 some in
          let less = least.below one.0 one.2 in
          let enough = one.3 in
          omega arith,
    )

    -- one frame more, with a delay that is enough
    behind : (bound q : ℕ) → Ends bound q → ((k : ℕ) → q + 1 ≤ k → k < count → Ends bound k) → (k : ℕ) → q ≤ k → k < count → Ends bound k
    behind bound q here rest k from to = elim (cases_lt q k) [
      | inl later ↦ rest k (omega arith) to
      | inr at ↦ let same : q ≡ k = omega arith in subst (λ n. Ends bound n) same here
    ]

    raised : (bound more k : ℕ) → bound ≤ more → Ends bound k → Ends more k
    raised bound more k less one = let enough = one.3 in (one.0, one.1, one.2, omega arith)

    -- with its least delay
    pub one-more : (bound q d end : ℕ) → q < count → IsSoFar bound (q + 1) → d ≤ limit → IsLeast (Enough q) d → end ≡ m.jitter + d + m.longest - (3 + q * m.period) → IsSoFar (max end bound) q
    one-more bound q d end few so_far within least is =
        let above : bound ≤ max end bound = omega arith in (
          raised bound (max end bound) 0 above so_far.0,
          behind (max end bound) q (d, within, least.is, omega arith) (λ k from to. raised bound (max end bound) k above (so_far.1 k from to)),
          λ other all.
              let before = so_far.2 other all in
              let one = all q few in
              let less = least.below one.0 one.2 in
              let enough = one.3 in
              omega arith,
        )

    -- with one that ends within the bound as it is
    pub passed-over : (bound q d end : ℕ) → IsSoFar bound (q + 1) → d ≤ limit → Enough q d → end ≡ m.jitter + d + m.longest - (3 + q * m.period) → end ≤ bound → IsSoFar bound q
    passed-over bound q d end so_far within enough is early = (so_far.0, behind bound q (d, within, enough, omega arith) so_far.1, so_far.2)

    pub all-of-them : (bound q : ℕ) → IsSoFar bound q → q ≤ 1 → IsLeast (AllEnd (most_hits rate) block wide m higher limit count) bound
    all-of-them bound q so_far few = record {
      is = λ k to. elim (cases_lt 0 k) [ inl later ↦ so_far.1 k (omega arith) to | inr at ↦ let same : 0 ≡ k = omega arith in subst (λ n. Ends bound n) same so_far.0 ];
      below = so_far.2;
    }

-- if blocking and widest are those of a ranking
module _ (rate : HitRate) (limit : ℕ) (ranking : Ranking) (block wide : ℕ) (is_block : block ≡ blocking ranking) (is_wide : wide ≡ widest ranking) where
  pub enough-to : (q n : ℕ) → IsEnough (most_hits rate) block wide ranking.message ranking.higher q n → delayed (most_hits rate) ranking q n ≤ n
  enough-to q n h = let P : ℕ → ℕ → Type 0 = λ b w. demand (most_hits rate) (b + q * ranking.message.longest) w ranking.higher (n + 1) ≤ n in
      subst (λ w. P (blocking ranking) w) is_wide (subst (λ b. P b wide) is_block h)

  pub enough-from : (q n : ℕ) → delayed (most_hits rate) ranking q n ≤ n → IsEnough (most_hits rate) block wide ranking.message ranking.higher q n
  enough-from q n h = let P : ℕ → ℕ → Type 0 = λ b w. demand (most_hits rate) (b + q * ranking.message.longest) w ranking.higher (n + 1) ≤ n in
      subst (λ b. P b wide) (sym is_block) (subst (λ w. P (blocking ranking) w) (sym is_wide) h)

  pub busy-to : (n : ℕ) → IsBusy (most_hits rate) block wide ranking.message ranking.higher n → busied (most_hits rate) ranking n ≤ n
  busy-to n h = let P : ℕ → ℕ → Type 0 = λ b w. demand (most_hits rate) b w (ranking.message ∷ ranking.higher) n ≤ n in
      subst (λ w. P (blocking ranking) w) is_wide (subst (λ b. P b wide) is_block h.1)

  pub busy-from : (n : ℕ) → 0 < n → busied (most_hits rate) ranking n ≤ n → IsBusy (most_hits rate) block wide ranking.message ranking.higher n
  busy-from n some h = let P : ℕ → ℕ → Type 0 = λ b w. demand (most_hits rate) b w (ranking.message ∷ ranking.higher) n ≤ n in
      (some, subst (λ b. P b wide) (sym is_block) (subst (λ w. P (blocking ranking) w) (sym is_wide) h))

  module _ (periodic : 0 < ranking.message.period) (long : ℕ) (within : long ≤ limit)
      (least : IsLeast (IsBusy (most_hits rate) block wide ranking.message ranking.higher) long) where
    -- each bound speaks of this frame
    among : (q other : ℕ) → q < arrivals ranking.message long → (b : IsBound (most_hits rate) limit ranking other) → q < arrivals ranking.message b.long
    among q other few b = let h = arrivals-grow ranking.message long b.long periodic (least.below b.long (busy-from b.long b.some b.busy)) in omega arith

    pub none-ends : (q : ℕ) × (q < arrivals ranking.message long) × ((n : ℕ) → IsEnough (most_hits rate) block wide ranking.message ranking.higher q n → limit < n) →
        (other : ℕ) → IsBound (most_hits rate) limit ranking other → ⊥
    none-ends none other b =
        let each = b.each none.0 (among none.0 other none.1 b) in
        let past = none.2 each.0 (enough-from none.0 each.0 each.2.delays) in
        let h = each.1 in
        absurd (omega arith)

    pub least-bound : (bound : ℕ) → IsLeast (AllEnd (most_hits rate) block wide ranking.message ranking.higher limit (arrivals ranking.message long)) bound → IsLeastBound (most_hits rate) limit ranking bound
    least-bound bound found = record {
      is = record {
        long = long;
        some = least.is.0;
        busy = busy-to long least.is;
        limited = within;
        each = λ q few. let one = found.is q few in (one.0, one.1, record { delays = enough-to q one.0 one.2; enough = one.3 });
      };
      least = λ other b. found.below other (λ q few.
          let one = b.each q (among q other few b) in (one.0, one.1, enough-from q one.0 one.2.delays, one.2.enough));
    }

    pub answers : (result : Option ℕ) →
        MatchOption result ((q : ℕ) × (q < arrivals ranking.message long) × ((n : ℕ) → IsEnough (most_hits rate) block wide ranking.message ranking.higher q n → limit < n))
        (λ b. IsLeast (AllEnd (most_hits rate) block wide ranking.message ranking.higher limit (arrivals ranking.message long)) b) →
        MatchOption result ((other : ℕ) → IsBound (most_hits rate) limit ranking other → ⊥) (λ b. IsLeastBound (most_hits rate) limit ranking b)
    answers None found = none-ends found
    answers (Some bound) found = least-bound bound found

-- the same for each ranking with these numbers
pub answers-each : (rate : HitRate) (limit block wide : ℕ) (m : Message) (higher : List Message) → 0 < m.period → (long : ℕ) → long ≤ limit → IsLeast (IsBusy (most_hits rate) block wide m higher) long → (result : Option ℕ) →
    MatchOption result ((q : ℕ) × (q < arrivals m long) × ((n : ℕ) → IsEnough (most_hits rate) block wide m higher q n → limit < n))
    (λ b. IsLeast (AllEnd (most_hits rate) block wide m higher limit (arrivals m long)) b) →
    MatchOption result (ForRanking block wide m higher (λ r. (other : ℕ) → IsBound (most_hits rate) limit r other → ⊥)) (λ b. ForRanking block wide m higher (λ r. IsLeastBound (most_hits rate) limit r b))
answers-each rate limit block wide m higher periodic long within least None found = λ lower is_block is_wide.
    none-ends rate limit (record { higher = higher; message = m; lower = lower }) block wide is_block is_wide periodic long within least found
answers-each rate limit block wide m higher periodic long within least (Some bound) found = λ lower is_block is_wide.
    least-bound rate limit (record { higher = higher; message = m; lower = lower }) block wide is_block is_wide periodic long within least bound found
