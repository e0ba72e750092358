-- Messages as the analysis takes them, that one within its deadline meets it, and verdicts one after another.
use Rattle.std.proofs.Common.{◌≡◌, ℕ, zero, suc, ◌+◌, ◌<◌, ◌≤◌, false, List, [], ◌∷◌, ◌++◌, length, get_or, take, Option, Some, None, MatchOption, refl, sym, ap, subst, ◌∙◌, inl, inr, arith}
use Rattle.std.specs.Prelude.{◌⊎◌, IfSome, option_map, slice_get}
use Rattle.std.proofs.lemmas.Bool.{ltb-false}
use Rattle.std.proofs.lemmas.List.{length-map, length-take-le, map-append, take_more}
use Rattle.std.proofs.lemmas.Option.{slice_get-get_or, slice_get-map}
use Rattle.can_plan.specs.declared.message.HitRate.{HitRate}
use Rattle.can_plan.specs.declared.message.Message.{Message}
use Rattle.can_plan.specs.Analysis.{IsBound, IsLeastBound, blocking, ranking_at}
use Rattle.can_plan.specs.Ends.{EndAlways}
use Rattle.can_plan.specs.Margins.{misses_deadline}
use Rattle.can_plan.specs.Messages.{ArePeriodic, IsMessageSet, most_hits}
use Rattle.can_plan_text.specs.declared.plan.Plan.{Plan}
use Rattle.can_plan_text.specs.declared.plan.Planned.{Planned}
use Rattle.can_plan_text.specs.declared.verdict.Verdict.{Verdict}
use Rattle.can_plan_text.specs.Answers.{AreVerdicts, IsPlanVerdict, KeepsDeadline, hit_rate_of, is_late, limit}
use Rattle.can_plan_text.specs.Plans.{messages_of}
use Rattle.can_plan_text.proofs.InOrder.{message-at}

pub periodic : (ps : List Planned) → ArePeriodic (messages_of ps)
periodic ps n m is = let x = message-at ps n m is in subst (λ (m : Message). 0 < m.period) x.2 x.0.periodic

-- a message that is planned, among those of the analysis
pub message-here : (ps : List Planned) (k : ℕ) (p : Planned) (messages : List Message) → messages ≡ messages_of ps → k < length ps → p ≡ get_or ps k p → slice_get messages k ≡ Some p.message
message-here ps k p messages all within is =
    ap (λ l. slice_get l k) all ∙ slice_get-map (λ (q : Planned). q.message) ps k ∙ ap (option_map (λ (q : Planned). q.message)) (slice_get-get_or ps k p within ∙ ap Some (sym is))

pub kept-by : (most : ℕ → ℕ) (messages : List Message) (m : Message) (deadline : ℕ) (bound : Option ℕ) →
    IfSome bound (λ b. EndAlways most messages m b) → misses_deadline deadline bound ≡ false → EndAlways most messages m deadline
kept-by most messages m deadline None holds ok = absurd (cc)
kept-by most messages m deadline (Some b) holds ok = λ releases hits course is frames in_time keep few place r here of.
    let ends = holds releases hits course is frames in_time keep few place r here of in
    let early : b ≤ deadline = ltb-false deadline b ok in
    let within = ends.2 in (ends.0, ends.1, omega (arith, early, within))

-- ---- what the analysis gives at a place of its own messages

module _ (bound : Option ℕ) where
  abbrev pub GivesLeast : List Message → HitRate → ℕ → ℕ → Type 0
  GivesLeast messages rate limit place = (m : Message) → slice_get messages place ≡ Some m → ArePeriodic messages →
      MatchOption bound ((other : ℕ) → IsBound (most_hits rate) limit (ranking_at messages place m) other → ⊥) (λ b. IsLeastBound (most_hits rate) limit (ranking_at messages place m) b)

  abbrev pub GivesHolding : List Message → HitRate → ℕ → Type 0
  GivesHolding messages rate place = (m : Message) → slice_get messages place ≡ Some m → IsMessageSet messages → IfSome bound (λ b. EndAlways (most_hits rate) messages m b)

  module _ (its messages : List Message) (rate : HitRate) (until until_here at place : ℕ) (same : its ≡ messages) (as_far : until ≡ until_here) (here : at ≡ place) where
    pub least-here : GivesLeast its rate until at → GivesLeast messages rate until_here place
    least-here given =
        subst (λ p. GivesLeast messages rate until_here p) here
        (subst (λ l. GivesLeast messages rate l at) as_far (subst (λ (ms : List Message). GivesLeast ms rate until at) same given))

    pub holding-here : GivesHolding its rate at → GivesHolding messages rate place
    holding-here given = subst (λ p. GivesHolding messages rate p) here (subst (λ (ms : List Message). GivesHolding ms rate at) same given)

-- ---- one message more

-- what is said of the message at a place, by these messages and this rate
abbrev pub Judged : ℕ → Verdict → List Message → HitRate → Planned → Type 0
Judged place v messages rate p =
    (v.blocking ≡ blocking (ranking_at messages place p.message))
    × MatchOption v.bound ((other : ℕ) → IsBound (most_hits rate) limit (ranking_at messages place p.message) other → ⊥)
    (λ b. IsLeastBound (most_hits rate) limit (ranking_at messages place p.message) b)
    × (IsMessageSet messages → is_late v ≡ false → EndAlways (most_hits rate) messages p.message p.deadline)

pub last-cases : {A : Type 0} (xs : List A) (x y : A) (n : ℕ) → slice_get (xs ++ x ∷ []) n ≡ Some y → (slice_get xs n ≡ Some y) ⊎ ((n ≡ length xs) × (x ≡ y))
last-cases [] x y zero is = inr (refl, cc)
last-cases [] x y (suc n) is = absurd (cc)
last-cases (z ∷ xs) x y zero is = inl is
last-cases (z ∷ xs) x y (suc n) is = elim (last-cases xs x y n is) [ inl early ↦ inl early | inr last ↦ inr (ap suc last.0, last.1) ]

module _ (plan : Plan) (place : ℕ) (within : place < length plan.messages.items) (p : Planned) (is : p ≡ get_or plan.messages.items place p)
    (messages : List Message) (all : messages ≡ messages_of plan.messages.items) (rate : HitRate) (hits : rate ≡ hit_rate_of plan.errors)
    (v : Verdict) (its : v.planned ≡ p) (said : Judged place v messages rate p) where
  moved : Judged place v (messages_of plan.messages.items) (hit_rate_of plan.errors) v.planned
  moved =
      subst (λ (m : List Message). Judged place v m (hit_rate_of plan.errors) v.planned) all
      (subst (λ (r : HitRate). Judged place v messages r v.planned) hits (subst (λ (q : Planned). Judged place v messages rate q) (sym its) said))

  verdict : IsPlanVerdict plan place v
  verdict = record { block = moved.0; least = moved.1 }

  pub verdicts-more : (vs : List Verdict) → AreVerdicts plan place vs → AreVerdicts plan (place + 1) (vs ++ v ∷ [])
  verdicts-more vs before =
      let size : length vs ≡ place = sym (length-map vs (λ (u : Verdict). u.planned)) ∙ ap length before.same ∙ length-take-le place plan.messages.items (omega (arith, within)) in
      let at_last : (n : ℕ) → n ≡ length vs → place ≡ n = λ n e. sym (e ∙ size) in
      record {
        same =
            map-append (λ (u : Verdict). u.planned) vs (v ∷ []) ∙ ap (λ l. l ++ v.planned ∷ []) before.same
            ∙ ap (λ (q : Planned). take place plan.messages.items ++ q ∷ []) (its ∙ is) ∙ sym (take_more plan.messages.items place p within);
        each = λ n u there. elim (last-cases vs v u n there) [
          | inl early ↦ before.each n u early
          | inr last ↦ subst (λ (w : Verdict). IsPlanVerdict plan n w) last.1 (subst (λ (k : ℕ). IsPlanVerdict plan k v) (at_last n last.0) verdict)
        ];
        kept = λ set n u there. elim (last-cases vs v u n there) [
          | inl early ↦ before.kept set n u early
          | inr last ↦ subst (λ (w : Verdict). KeepsDeadline plan w) last.1 (moved.2 set)
        ];
      }
