-- What the steps of the analysis compute, in terms of the numbers that they use.
use Rattle.std.specs.Prelude.{ℕ, ◌≡◌, ◌≢◌, ◌+◌, ◌*◌, ◌<◌, ◌≤◌, List, ◌∷◌}
use Rattle.can_plan.specs.declared.message.Message.{Message}
use Rattle.can_plan.specs.Analysis.{IsLeast, Ranking, arrivals, blocking, demand, widest}
use Rattle.can_plan.specs.Latest.{end_of}

-- the claim holds of the message with these higher-priority ones, for any lower-priority ones, if these numbers are those of the ranking:
-- the blocking, and the longest time on the bus
abbrev pub ForRanking : ℕ → ℕ → Message → List Message → (Ranking → Type 0) → Type 0
ForRanking block wide m higher Claim = (lower : List Message) → let r : Ranking = record { higher = higher; message = m; lower = lower } in
    block ≡ blocking r → wide ≡ widest r → Claim r

-- for the numbers of a ranking: the blocking, and the longest time on the bus
module _ (most : ℕ → ℕ) (block wide : ℕ) (m : Message) (higher : List Message) where
  -- within this many bit times the bus has been free
  abbrev pub IsBusy : ℕ → Type 0
  IsBusy long = (0 < long) × (demand most block wide (m ∷ higher) long ≤ long)

  -- this delay is enough for instance q
  abbrev pub IsEnough : ℕ → ℕ → Type 0
  IsEnough q delay = demand most (block + q * m.longest) wide higher (delay + 1) ≤ delay

  -- each of the first `count` instances has a delay up to the limit with which its wire ends within the bound
  abbrev pub AllEnd : ℕ → ℕ → ℕ → Type 0
  AllEnd limit count bound = (q : ℕ) → q < count
      → (d : ℕ) × (d ≤ limit) × IsEnough q d × (m.jitter + d + m.longest ≤ bound + 3 + q * m.period)

  -- the response time of instance q is not the bound
  abbrev pub EndsElse : ℕ → ℕ → ℕ → Type 0
  EndsElse limit bound q = (d : ℕ) × (d ≤ limit) × IsLeast (IsEnough q) d × (end_of m q d ≢ bound)

  -- no instance before q has the bound as its response time; and q has no delay up to the limit, or is not in a busy period up to it
  abbrev pub NoneEnds : ℕ → ℕ → Type 0
  NoneEnds limit bound = (q : ℕ) × ((k : ℕ) → k < q → EndsElse limit bound k) × ((n : ℕ) → q < arrivals m limit → IsEnough q n → limit < n)
