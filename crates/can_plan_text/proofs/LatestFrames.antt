-- The latest frame of each message.
use Rattle.std.proofs.Common.{◌≡◌, ℕ, List, ◌∷◌, ◌++◌, [], length, Option, Some, None, MatchOption, refl, sym, ap, subst, ◌∙◌, inl, inr, arith}
use Rattle.std.specs.Prelude.{IfSome, option_map, slice_get}
use Rattle.std.proofs.lemmas.List.{take_all}
use Rattle.std.proofs.lemmas.Option.{slice_get-map}
use Rattle.can_plan.specs.declared.latest.Latest.{Latest}
use Rattle.can_plan.specs.declared.message.HitRate.{HitRate}
use Rattle.can_plan.specs.declared.message.Message.{Message}
use Rattle.can_plan.specs.Analysis.{IsBound, IsLeastBound, Ranking, ranking_at}
use Rattle.can_plan.specs.Latest.{IsLatest, sum_of_parts}
use Rattle.can_plan.specs.Messages.{most_hits}
use Rattle.can_plan_text.specs.declared.detail.Detail.{Detail}
use Rattle.can_plan_text.specs.declared.plan.Plan.{Plan}
use Rattle.can_plan_text.specs.declared.plan.Planned.{Planned}
use Rattle.can_plan_text.specs.declared.verdict.Verdict.{Verdict}
use Rattle.can_plan_text.specs.Answers.{AreVerdicts, IsPlanVerdict, hit_rate_of, limit, most_of}
use Rattle.can_plan_text.specs.Details.{IsDetail, IsLatestOf}
use Rattle.can_plan_text.specs.Plans.{messages_of}
use Rattle.can_plan_text.proofs.Kept.{last-cases}

module _ (plan : Plan) (place : ℕ) (v : Verdict) where
  -- the latest frame, by these messages and this error model
  abbrev pub Told : List Message → HitRate → ℕ → Option Latest → Type 0
  Told messages rate bound result =
      MatchOption result (IsLeastBound (most_hits rate) limit (ranking_at messages place v.planned.message) bound → ⊥)
      (λ l. IsLatest (most_hits rate) (ranking_at messages place v.planned.message) bound l)
      × IfSome result (λ l. bound ≡ sum_of_parts (ranking_at messages place v.planned.message) l)

  here : (bound : ℕ) → IsPlanVerdict plan place v → v.bound ≡ Some bound → (result : Option Latest) →
      Told (messages_of plan.messages.items) (hit_rate_of plan.errors) bound result → IsLatestOf plan place v v.bound result
  here bound judged is None told =
      let ranking : Ranking = ranking_at (messages_of plan.messages.items) place v.planned.message in
      let least : IsLeastBound (most_of plan) limit ranking bound =
      subst (λ (b : Option ℕ). MatchOption b ((other : ℕ) → IsBound (most_of plan) limit ranking other → ⊥) (λ n. IsLeastBound (most_of plan) limit ranking n)) is judged.least in
      absurd (told.0 least)
  here bound judged is (Some l) told = subst (λ (b : Option ℕ). IsLatestOf plan place v b (Some l)) (sym is) (l, refl, told.0, told.1)

  pub latest-told : (messages : List Message) → messages ≡ messages_of plan.messages.items → (rate : HitRate) → rate ≡ hit_rate_of plan.errors →
      (bound : ℕ) → IsPlanVerdict plan place v → v.bound ≡ Some bound → (result : Option Latest) → Told messages rate bound result → IsLatestOf plan place v v.bound result
  latest-told messages all rate hits bound judged is result told =
      here bound judged is result (subst (λ (ms : List Message). Told ms (hit_rate_of plan.errors) bound result) all (subst (λ (r : HitRate). Told messages r bound result) hits told))

  pub latest-none : v.bound ≡ None → (result : Option Latest) → result ≡ None → IsLatestOf plan place v v.bound result
  latest-none is result none = subst (λ (b : Option ℕ). IsLatestOf plan place v b result) (sym is) none

-- the message of a verdict
pub judged-here : (plan : Plan) (vs : List Verdict) → AreVerdicts plan (length plan.messages.items) vs → (n : ℕ) (v : Verdict) → slice_get vs n ≡ Some v →
    slice_get (messages_of plan.messages.items) n ≡ Some v.planned.message
judged-here plan vs are n v at =
    let planned : Verdict → Planned = λ u. u.planned in
    let all = are.same ∙ take_all (length plan.messages.items) plan.messages.items (omega arith) in
    let one : slice_get plan.messages.items n ≡ Some v.planned = ap (λ l. slice_get l n) (sym all) ∙ slice_get-map planned vs n ∙ ap (option_map planned) at in
    slice_get-map (λ (p : Planned). p.message) plan.messages.items n ∙ ap (option_map (λ (p : Planned). p.message)) one

-- one more detail
pub details-more : (plan : Plan) (vs : List Verdict) (ds : List Detail) (place : ℕ) (v : Verdict) (d : Detail) → length ds ≡ place → slice_get vs place ≡ Some v →
    IsDetail plan place v d →
    ((n : ℕ) (u : Verdict) (e : Detail) → slice_get vs n ≡ Some u → slice_get ds n ≡ Some e → IsDetail plan n u e) →
    (n : ℕ) (u : Verdict) (e : Detail) → slice_get vs n ≡ Some u → slice_get (ds ++ d ∷ []) n ≡ Some e → IsDetail plan n u e
details-more plan vs ds place v d size at is before n u e there here_it = elim (last-cases ds d e n here_it) [
  | inl early ↦ before n u e there early
  | inr last ↦
      let where_it : n ≡ place = last.0 ∙ size in
      let same : Some u ≡ Some v = sym there ∙ ap (slice_get vs) where_it ∙ at in
      let one : v ≡ u = cc in
      subst (λ (k : ℕ). IsDetail plan k u e) (sym where_it) (subst (λ (w : Verdict). IsDetail plan place w e) one (subst (λ (f : Detail). IsDetail plan place v f) last.1 is))
]
