-- The analysis of each message of a network. (docs/PLANNING.md, "`canplan`")
use Rattle.std.specs.Prelude.{ℕ, ◌≡◌, ◌↔◌, ◌≤◌, Bool, false, List, map, Option, Some, None, MatchOption, unwrap_or, length, slice_get, take}
use Rattle.std.specs.List.{count_by}
use Rattle.can_plan.specs.declared.borne.Borne.{Borne}
use Rattle.can_plan.specs.declared.message.HitRate.{HitRate}
use Rattle.can_plan.specs.Analysis.{IsBound, IsLeastBound, Ranking, blocking, ranking_at}
use Rattle.can_plan.specs.Borne.{Allows}
use Rattle.can_plan.specs.Ends.{EndAlways}
use Rattle.can_plan.specs.Margins.{misses_deadline}
use Rattle.can_plan.specs.Messages.{IsMessageSet, most_hits}
use Rattle.can_plan_text.specs.declared.verdict.Analysis.{Analysis}
use Rattle.can_plan_text.specs.declared.verdict.Verdict.{Verdict}
use Rattle.can_plan_text.specs.declared.plan.Plan.{Plan}
use Rattle.can_plan_text.specs.Plans.{messages_of}

-- the limit of the analysis for busy periods and delays, in bit times
abbrev pub limit : ℕ
limit = 10000000

-- the error model, without hits if the document has none
abbrev pub hit_rate_of : Option HitRate → HitRate
hit_rate_of errors = unwrap_or errors (record { burst = 0; spacing = 0 })

-- the greatest number of hits in a number of bit times
abbrev pub most_of : Plan → ℕ → ℕ
most_of plan = most_hits (hit_rate_of plan.errors)

-- the message may miss its deadline: no bound was found, or one above the deadline
abbrev pub is_late : Verdict → Bool
is_late v = misses_deadline v.planned.deadline v.bound

-- how many messages may miss their deadline
abbrev pub late_in : List Verdict → ℕ
late_in verdicts = count_by is_late verdicts

-- On each course of the bus, if releases keep to the messages, and hits to the error model: the wire of each frame of a message
-- that is not late ends within the deadline after its release.
pub record IsPlanVerdict (plan : Plan) (place : ℕ) (v : Verdict) : Type 0 where
  pub block : v.blocking ≡ blocking (ranking_at (messages_of plan.messages.items) place v.planned.message)
  pub least : let ranking : Ranking = ranking_at (messages_of plan.messages.items) place v.planned.message in
      MatchOption v.bound ((other : ℕ) → IsBound (most_of plan) limit ranking other → ⊥) (λ b. IsLeastBound (most_of plan) limit ranking b)

-- A message that is not late meets its deadline: on every course of the bus on which releases keep to the messages, and hits to
-- the error model, the wire of each of its frames ends within the deadline after its release.
abbrev pub KeepsDeadline : Plan → Verdict → Type 0
KeepsDeadline plan v = is_late v ≡ false → EndAlways (most_of plan) (messages_of plan.messages.items) v.planned.message v.planned.deadline

-- the verdicts on all messages before a place
pub record AreVerdicts (plan : Plan) (place : ℕ) (verdicts : List Verdict) : Type 0 where
  pub same : map (λ v. v.planned) verdicts ≡ take place plan.messages.items
  pub each : (n : ℕ) (v : Verdict) → slice_get verdicts n ≡ Some v → IsPlanVerdict plan n v
  pub kept : IsMessageSet (messages_of plan.messages.items) → (n : ℕ) (v : Verdict) → slice_get verdicts n ≡ Some v → KeepsDeadline plan v

-- the bit times for which the error model allows at most fifteen hits, if the document has one
abbrev pub IsBorneFor : Option HitRate → Option Borne → Type 0
IsBorneFor None borne = borne ≡ None
IsBorneFor (Some rate) borne = (b : Borne) × (borne ≡ Some b) × ((long : ℕ) → Allows b long ↔ (most_hits rate long ≤ 15))

-- the analysis of a network
pub record IsAnalysis (plan : Plan) (analysis : Analysis) : Type 0 where
  pub verdicts : AreVerdicts plan (length plan.messages.items) analysis.verdicts.items
  pub borne : IsBorneFor plan.errors analysis.borne
