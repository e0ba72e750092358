-- The response time analysis: which numbers it gives as bounds on the time from a frame's release to the end of its wire.
-- (docs/PLANNING.md, "The analysis")
--
-- It is the test that Davis, Burns, Bril and Lukkien (2007) call exact, with their names: C is a message's longest time on the bus, T its
-- period, J its jitter; B the blocking by lower-priority messages; hp(m) the higher-priority ones. All numbers are whole bit times, and L
-- bit times are those from t to t + L - 1. If a formula has a number more or less than theirs, its comment says why.
use Rattle.std.specs.Prelude.{ℕ, ◌+◌, ◌-◌, ◌*◌, ◌/◌, ◌<◌, ◌≤◌, max, List, ◌∷◌, take, drop, fold, Option, MatchOption}
use Rattle.std.specs.List.{sum_by}
use Rattle.can_plan.specs.declared.message.Message.{Message}

-- a message, those with higher priority, and those with lower priority
pub record Ranking : Type 0 where
  pub higher : List Message
  pub message : Message
  pub lower : List Message

-- the message at a place of the list
abbrev pub ranking_at : List Message → ℕ → Message → Ranking
ranking_at messages place message = record { higher = take place messages; message = message; lower = drop (place + 1) messages }

-- the greatest of these numbers, or 0
abbrev pub greatest : (Message → ℕ) → List Message → ℕ
greatest f messages = fold (λ most m. max most (f m)) 0 messages

-- At most how many frames of a message are offered in L bit times: ⌈(L + J) / T⌉. The first may be offered J after its release, and each
-- other when it is released.
abbrev pub arrivals : Message → ℕ → ℕ
arrivals m long = (long + m.jitter + m.period - 1) / m.period

-- how long these keep the bus
abbrev pub load : List Message → ℕ → ℕ
load messages long = sum_by (λ m. arrivals m long * m.longest) messages

-- B: how long a frame of a lower-priority message that has started before keeps the bus. It started at least one bit time earlier,
-- because of the frames that are offered by a bit time the one with the highest priority is sent. So it is C - 1, and theirs is C.
abbrev pub blocking : Ranking → ℕ
blocking r = greatest (λ m. m.longest - 1) r.lower

-- M: the greatest C of the message and of those with higher priority
abbrev pub widest : Ranking → ℕ
widest r = greatest (λ m. m.longest) (r.message ∷ r.higher)

-- How many bit times hits take in attempts that begin within L bit times. A hit falls at the last but one level of the end of frame at
-- the latest, C - 5 bit times after the start of its attempt, so L + M - 5 bit times contain all of these hits. From the hit on it takes
-- 18 bit times until the bus is free again: that level, six of an error flag, and eleven of delimiter and intermission. It takes up to
-- six more if the receivers' error comes later, but only in the stuffed part, which is over 13 bit times before C is. So the attempt
-- takes C - 14 + 24, or C - 5 + 18, which is C + 13.
abbrev pub hits_cost : (ℕ → ℕ) → ℕ → ℕ → ℕ
hits_cost most widest long = most (long + widest - 5) * (widest + 13)

-- the demand on the bus of attempts that begin within L bit times: this time, the frames of these messages, and hits
abbrev pub demand : (ℕ → ℕ) → ℕ → ℕ → List Message → ℕ → ℕ
demand most time widest messages long = time + load messages long + hits_cost most widest long

-- The busy period: within L bit times the bus has been free of the message and of those with higher priority, if this is at most L. The
-- next busy period would begin with a frame that is offered L later, so L itself is counted, and no bit time more.
abbrev pub busied : (ℕ → ℕ) → Ranking → ℕ → ℕ
busied most r long = demand most (blocking r) (widest r) (r.message ∷ r.higher) long

-- within this many bit times, above 0, the bus has been free of them
abbrev pub HasBeenFree : (ℕ → ℕ) → Ranking → ℕ → Type 0
HasBeenFree most r long = (0 < long) × (busied most r long ≤ long)

-- The delay w of instance q, the frames of the message in a busy period counted from 0: it starts at most w after the begin of the
-- period, if this is at most w. A higher-priority frame that is offered for the bit time in which it would start, w after the begin, is
-- sent first. So w + 1 bit times are counted; theirs add τ_bit.
abbrev pub delayed : (ℕ → ℕ) → Ranking → ℕ → ℕ → ℕ
delayed most r q delay = demand most (blocking r + q * r.message.longest) (widest r) r.higher (delay + 1)

-- The wire of instance q ends within the bound: J + w + C - q T, less the three bit times of intermission, which C includes and a wire
-- does not.
pub record IsDelay (most : ℕ → ℕ) (r : Ranking) (bound q delay : ℕ) : Type 0 where
  pub delays : delayed most r q delay ≤ delay
  pub enough : r.message.jitter + delay + r.message.longest ≤ bound + 3 + q * r.message.period

-- The analysis, with numbers up to a limit, gives this bound: each instance in a busy period ends within it, not only the first.
pub record IsBound (most : ℕ → ℕ) (limit : ℕ) (r : Ranking) (bound : ℕ) : Type 0 where
  pub long : ℕ
  pub some : 0 < long
  pub busy : busied most r long ≤ long
  pub limited : long ≤ limit
  pub each : (q : ℕ) → q < arrivals r.message long → (delay : ℕ) × (delay ≤ limit) × IsDelay most r bound q delay

-- it gives this bound, and no lower one
pub record IsLeastBound (most : ℕ → ℕ) (limit : ℕ) (r : Ranking) (bound : ℕ) : Type 0 where
  pub is : IsBound most limit r bound
  pub least : (other : ℕ) → IsBound most limit r other → bound ≤ other

-- the least number that is enough
pub record IsLeast (enough : ℕ → Type 0) (least : ℕ) : Type 0 where
  pub is : enough least
  pub below : (n : ℕ) → enough n → least ≤ n

-- the length of the busy period; `None` if it is above the limit
abbrev pub IsBusyPeriod : (ℕ → ℕ) → ℕ → Ranking → Option ℕ → Type 0
IsBusyPeriod most limit r busy =
    MatchOption busy ((n : ℕ) → HasBeenFree most r n → limit < n)
    (λ long. (long ≤ limit) × IsLeast (HasBeenFree most r) long)
