-- How much is left of a network until a message may miss its deadline: by how much all periods may shorten, and how many more hits may
-- fall. (docs/PLANNING.md, "What is left")
use Rattle.std.specs.Prelude.{ℕ, ◌≡◌, ◌↔◌, ◌+◌, ◌-◌, ◌*◌, ◌/◌, ◌<◌, ◌≤◌, max, nat_lt, Bool, true, List, map, Option, Some, None, MatchOption, slice_get}
use Rattle.can_plan.specs.declared.margin.Margin.{Margin}
use Rattle.can_plan.specs.declared.margin.Strain.{Strain}
use Rattle.can_plan.specs.declared.margin.Strain.TheVariants.{MoreHits, ShorterPeriods}
use Rattle.can_plan.specs.declared.message.HitRate.{HitRate}
use Rattle.can_plan.specs.declared.message.Message.{Message}
use Rattle.can_plan.specs.Analysis.{IsBound, ranking_at}
use Rattle.can_plan.specs.Ends.{EndAlways}
use Rattle.can_plan.specs.Messages.{most_hits}

-- ---- deadlines, each at the place of its message

-- no bound was found, or one above the deadline
abbrev pub misses_deadline : ℕ → Option ℕ → Bool
misses_deadline deadline None = true
misses_deadline deadline (Some bound) = nat_lt deadline bound

module _ (rate : HitRate) (limit : ℕ) (messages : List Message) (deadlines : List ℕ) where
  -- the analysis gives the deadline at this place as a bound
  abbrev pub MeetsDeadline : ℕ → Type 0
  MeetsDeadline place = (m : Message) (deadline : ℕ) → slice_get messages place ≡ Some m → slice_get deadlines place ≡ Some deadline →
      IsBound (most_hits rate) limit (ranking_at messages place m) deadline

  -- it does so for all messages
  abbrev pub MeetDeadlines : Type 0
  MeetDeadlines = (place : ℕ) → MeetsDeadline place

  -- the message at this place is the first that may miss its deadline
  pub record IsFirstLate (place : ℕ) : Type 0 where
    pub message : Message
    pub deadline : ℕ
    pub here : slice_get messages place ≡ Some message
    pub due : slice_get deadlines place ≡ Some deadline
    pub late : IsBound (most_hits rate) limit (ranking_at messages place message) deadline → ⊥
    pub before : (k : ℕ) → k < place → MeetsDeadline k

-- On every course whose releases keep to the messages, and whose hits keep to the error model, each frame of each message ends within its
-- deadline.
abbrev pub EndInTime : HitRate → List Message → List ℕ → Type 0
EndInTime rate messages deadlines =
    (place : ℕ) (m : Message) (deadline : ℕ) → slice_get messages place ≡ Some m
    → slice_get deadlines place ≡ Some deadline →
    EndAlways (most_hits rate) messages m deadline

-- ---- a network under a change

-- with a period shorter by this many per cent, rounded down to whole bit times, at least one
abbrev pub shorter : ℕ → Message → Message
shorter percent m = record m { period = max 1 (m.period * (100 - percent) / 100) }

-- with this many more hits at once
abbrev pub hit_more : ℕ → HitRate → HitRate
hit_more hits rate = record rate { burst = rate.burst + hits }

abbrev pub messages_under : Strain → ℕ → List Message → List Message
messages_under ShorterPeriods percent messages = map (shorter percent) messages
messages_under MoreHits hits messages = messages

abbrev pub rate_under : Strain → ℕ → HitRate → HitRate
rate_under ShorterPeriods percent rate = rate
rate_under MoreHits hits rate = hit_more hits rate

-- the greatest change: 99 per cent, and as many hits as keep the burst at most 65,535
abbrev pub most_strain : Strain → HitRate → ℕ
most_strain ShorterPeriods rate = 99
most_strain MoreHits rate = 65535 - rate.burst

module _ (strain : Strain) (rate : HitRate) (limit : ℕ) (messages : List Message) (deadlines : List ℕ) where
  -- the message at a place meets its deadline with this change
  abbrev pub MeetsUnder : ℕ → ℕ → Type 0
  MeetsUnder more place = MeetsDeadline (rate_under strain more rate) limit (messages_under strain more messages) deadlines place

  -- all messages do
  abbrev pub MeetUnder : ℕ → Type 0
  MeetUnder more = (place : ℕ) → MeetsUnder more place

  -- this message is the first that may miss its deadline with this change
  abbrev pub IsFirstUnder : ℕ → ℕ → Type 0
  IsFirstUnder more place = IsFirstLate (rate_under strain more rate) limit (messages_under strain more messages) deadlines place

  -- The margin: with this much and with less all messages meet their deadlines, with more they do not. With one more, `late` is the first
  -- that may miss its deadline.
  pub record IsMargin (margin : Margin) : Type 0 where
    pub within : margin.most ≤ most_strain strain rate
    pub exact : (more : ℕ) → more ≤ most_strain strain rate → MeetUnder more ↔ (more ≤ margin.most)
    pub late : MatchOption margin.late (margin.most ≡ most_strain strain rate)
        (λ place. (margin.most < most_strain strain rate) × IsFirstUnder (margin.most + 1) place)
