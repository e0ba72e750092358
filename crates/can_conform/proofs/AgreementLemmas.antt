-- What is compared of a transcript, bit time by bit time.
use Rattle.std.specs.Prelude.{IfSome, slice_get, unwrap_or}
use Rattle.std.proofs.Common.{◌≡◌, ℕ, zero, suc, ◌+◌, ◌<◌, ◌≤◌, Option, Some, None, length, refl, sym, ap, ◌∙◌, subst, inl, inr, arith}
use Rattle.std.proofs.lemmas.Bool.{cases_order}
use Rattle.std.proofs.lemmas.Option.{slice_get_past}
use Rattle.can_conform.specs.declared.judging.Difference.{Difference}
use Rattle.can_conform.specs.declared.judging.Difference.TheVariants as difference
use Rattle.can_conform.specs.declared.judging.Progress.{Progress}
use Rattle.can_conform.specs.declared.moment.Moment.{Moment}
use Rattle.can_terms.specs.declared.script.Script.{Script}
use Rattle.can_terms.specs.declared.script.Start.{Start}
use Rattle.can_terms.specs.declared.script.Start.TheVariants as start
use Rattle.can_conform.specs.declared.standing.Rule.{Rule}
use Rattle.can_terms.specs.declared.timed.Timed.{Timed}
use Rattle.can_terms.specs.declared.transcript.Transcript.{Transcript}
use Rattle.can_node.specs.Ports.{PortState}
use Rattle.can_terms.specs.declared.event.Event.{Event}
use Rattle.can_conform.specs.Runs.{before, counters_of, moment_at, started}
use Rattle.can_terms.specs.Cases.{AreRising, EndBefore, IsTold}
use Rattle.can_conform.specs.Transcripts.{no_counts, item_at, told_before, AgreesAt}
use Rattle.can_conform.specs.Verdicts.{IsDifference}
use Rattle.can_conform.specs.Walks.{HasReached, HasWalked, IsDifferenceAt, IsStanding}
use Rattle.can_conform.proofs.RunLemmas.{before-first, before-past, event-past, level-past, rule-past, since-past}
use Rattle.can_conform.proofs.TimedLemmas.{reached-first, item_at-past, told_before-first, told_before_more, told_before-past}

-- ---- what may be left out

pub some-each : {A : Type 0} (P : A → Type 0) (o : Option A) → ((x : A) → P x) → IfSome o P
some-each P None each = tt
some-each P (Some x) each = each x

pub some-map : {A : Type 0} (P Q : A → Type 0) (o : Option A) → ((x : A) → P x → Q x) → IfSome o P → IfSome o Q
some-map P Q None each p = tt
some-map P Q (Some x) each p = each x p

pub some-both : {A : Type 0} (P Q R : A → Type 0) (o : Option A) → ((x : A) → P x → Q x → R x) → IfSome o P → IfSome o Q → IfSome o R
some-both P Q R None each p q = tt
some-both P Q R (Some x) each p q = each x p q

-- ---- the walk

pub reached-start : (told : Transcript) (p : Progress) → p.event ≡ 0 → p.counter ≡ 0 → p.held ≡ no_counts → HasReached told p 0
reached-start told p event counter held = record {
  events = some-each _ told.events (λ events. rw event (reached-first events.items));
  counters = some-each _ told.counters (λ counters. rw counter (reached-first counters.items));
  held = some-each _ told.counters (λ counters. held ∙ sym (told_before-first no_counts counters.items));
}

-- ---- a bit time for which nothing is listed

-- the counters listed last stay
counters-stay : (told : Transcript) (p : Progress) (t : ℕ) → IsTold told → HasReached told p t → IfSome told.counters (λ counters. item_at counters.items t ≡ None)
    → IfSome told.counters (λ counters. p.held ≡ told_before no_counts counters.items (t + 1))
counters-stay told p t is reached none =
    some-both _ _ _ told.counters (λ counters both held.
    held ∙ sym (told_before_more no_counts counters.items t both.0 ∙ ap (λ o. unwrap_or o (told_before no_counts counters.items t)) both.1))
    (some-both (λ counters. AreRising counters.items) (λ counters. item_at counters.items t ≡ None) (λ counters. AreRising counters.items × (item_at counters.items t ≡ None)) told.counters (λ counters rising at. (rising, at)) is.counters none)
    reached.held

pub quiet-agrees : (told : Transcript) (p : Progress) (t : ℕ) (m : Moment) → IsTold told → HasReached told p t → m.event ≡ None → p.held ≡ m.counters → slice_get told.drove.items t ≡ m.drove
    → IfSome told.events (λ events. item_at events.items t ≡ None) → IfSome told.counters (λ counters. item_at counters.items t ≡ None) → AgreesAt told t m
quiet-agrees told p t m is reached event held level no_event no_change = record {
  level = level;
  event = some-map _ _ told.events (λ events at. at ∙ sym event) no_event;
  counters = some-map _ _ told.counters (λ counters stays. sym stays ∙ held) (counters-stay told p t is reached no_change);
}

pub quiet-reached : (told : Transcript) (p : Progress) (t : ℕ) → IsTold told → HasReached told p t
    → IfSome told.events (λ events. HasWalked events.items p.event (t + 1)) → IfSome told.counters (λ counters. HasWalked counters.items p.counter (t + 1))
    → IfSome told.counters (λ counters. item_at counters.items t ≡ None) → HasReached told p (t + 1)
quiet-reached told p t is reached events counters no_change = record { events = events; counters = counters; held = counters-stay told p t is reached no_change }

-- ---- after all that is listed

pub counters-start : (begin : Start) → no_counts ≡ counters_of (started begin)
counters-start start.Idle = refl
counters-start start.Joining = refl

-- the counters listed before this time are those of the run, if they agree at each time before
counters-agree : (s : Script) (told : Transcript) (h : ℕ) → ((t : ℕ) → t < h → AgreesAt told t (moment_at s t)) →
    IfSome told.counters (λ counters. told_before no_counts counters.items h ≡ counters_of (before s h))
counters-agree s told zero agrees =
    some-each _ told.counters (λ counters. told_before-first no_counts counters.items ∙ counters-start s.start ∙ sym (ap counters_of (before-first s)))
counters-agree s told (suc h) agrees =
    let last = agrees h (omega arith) in
    let P : ℕ → Type 0 = λ n. IfSome told.counters (λ counters. told_before no_counts counters.items n ≡ counters_of (before s n)) in
    subst P (let e : h + 1 ≡ suc h = omega arith in e) last.counters

-- all agrees before the next bit time
pub agrees-more : (s : Script) (told : Transcript) (n : ℕ) → ((t : ℕ) → t < n → AgreesAt told t (moment_at s t)) → AgreesAt told n (moment_at s n) →
    (t : ℕ) → t < n + 1 → AgreesAt told t (moment_at s t)
agrees-more s told n before here t h = elim (cases_order t n) [
  | inl same ↦ subst (λ k. AgreesAt told k (moment_at s k)) (sym same) here
  | inr apart ↦ elim apart [
    | inl less ↦ before t less
    | inr more ↦ absurd (omega arith)
  ]
]

pub agrees-all : (s : Script) (told : Transcript) (h : ℕ) → length s.tester.items ≤ h → length told.drove.items ≤ h →
    IfSome told.events (λ events. EndBefore events.items h) → IfSome told.counters (λ counters. EndBefore counters.items h) →
    ((t : ℕ) → t < h → AgreesAt told t (moment_at s t)) → (t : ℕ) → AgreesAt told t (moment_at s t)
agrees-all s told h bits levels events counters agrees t = elim (cases_order t h) [
  | inl same ↦ past (omega arith)
  | inr apart ↦ elim apart [
    | inl less ↦ agrees t less
    | inr more ↦ past (omega arith)
  ]
]
  where
    past : h ≤ t → AgreesAt told t (moment_at s t)
    past late = record {
      level = slice_get_past told.drove.items t (omega arith) ∙ sym (level-past s t (omega arith));
      event = some-map _ _ told.events (λ events ends. item_at-past events.items h t ends late ∙ sym (event-past s t (omega arith))) events;
      counters = some-both _ _ _ told.counters
          (λ counters ends held. told_before-past no_counts counters.items h (t + 1) ends (omega arith) ∙ held
          ∙ ap counters_of (before-past s h bits ∙ sym (before-past s (t + 1) (omega arith)))) counters (counters-agree s told h agrees);
    }

-- a port is in the state in which the case ended
pub stands-past : (s : Script) (t : ℕ) (p : PortState) (now : Rule) (since : Option (Timed Event)) → length s.tester.items ≤ t → IsStanding s t p now since → IsStanding s (length s.tester.items) p now since
stands-past s t p now since past stands = record {
  port = stands.port ∙ before-past s t past;
  decides = stands.decides ∙ rule-past s t past;
  last = stands.last ∙ since-past s t past;
}

-- ---- differences

-- a difference from a moment is one from the run
pub difference-is : (s : Script) (told : Transcript) (t : ℕ) (m : Moment) (d : Difference) → m ≡ moment_at s t → IsDifferenceAt told t m d → IsDifference s told t d
difference-is s told t m (difference.Level one other) is h = subst (λ n. IsDifferenceAt told t n (difference.Level one other)) is h
difference-is s told t m (difference.Event one other) is h = subst (λ n. IsDifferenceAt told t n (difference.Event one other)) is h
difference-is s told t m (difference.Counters one other) is h = subst (λ n. IsDifferenceAt told t n (difference.Counters one other)) is h
difference-is s told t m (difference.End one other) is h = absurd h
