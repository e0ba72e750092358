-- The parts of a bound: the latest frame of a busy period, and the parts of its response time. (docs/PLANNING.md, "What makes a bound")
use Rattle.std.specs.Prelude.{ℕ, ◌≡◌, ◌≢◌, ◌+◌, ◌-◌, ◌*◌, ◌<◌, ◌≤◌}
use Rattle.can_plan.specs.declared.latest.Latest.{Latest}
use Rattle.can_plan.specs.declared.message.Message.{Message}
use Rattle.can_plan.specs.Analysis.{IsLeast, Ranking, blocking, delayed, hits_cost, load, widest}

-- How long after its release the wire of instance q ends, with delay w: J + w + C - q T, less the three bit times of intermission.
abbrev pub end_of : Message → ℕ → ℕ → ℕ
end_of m q delay = m.jitter + delay + m.longest - (3 + q * m.period)

-- w(q)
abbrev pub HasDelay : (ℕ → ℕ) → Ranking → ℕ → ℕ → Type 0
HasDelay most r q delay = IsLeast (λ n. delayed most r q n ≤ n) delay

-- The latest frame: the first instance whose response time is the bound; how long the earlier frames of its message keep the bus, how
-- long after the first it is released, and the hits that delay it.
pub record IsLatest (most : ℕ → ℕ) (r : Ranking) (bound : ℕ) (latest : Latest) : Type 0 where
  pub delay : HasDelay most r latest.number latest.delay
  pub end : latest.end ≡ end_of r.message latest.number latest.delay
  pub told : latest.end ≡ bound
  pub first : (q delay : ℕ) → q < latest.number → HasDelay most r q delay → end_of r.message q delay ≢ bound
  pub earlier : latest.earlier ≡ latest.number * r.message.longest
  pub later : latest.later ≡ latest.number * r.message.period
  pub hits : latest.hits ≡ most (latest.delay + 1 + widest r - 5)
  pub cost : latest.hits_cost ≡ hits_cost most (widest r) (latest.delay + 1)

-- Its parts: jitter, blocking, the earlier frames of its message, the frames of higher-priority messages, hits, and its wire; less the
-- periods from the first release to its own.
abbrev pub sum_of_parts : Ranking → Latest → ℕ
sum_of_parts r latest =
    r.message.jitter + blocking r + latest.earlier + load r.higher (latest.delay + 1) + latest.hits_cost
    + r.message.longest - (3 + latest.later)
