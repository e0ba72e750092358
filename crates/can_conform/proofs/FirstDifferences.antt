-- Each transcript has a verdict.
use Rattle.std.specs.Prelude.{slice_get, ◌⊎◌, ◌^◌, IfSome, IsSomeAnd}
use Rattle.std.proofs.Common.{◌≡◌, ◌≢◌, ℕ, zero, suc, ◌+◌, ◌-◌, ◌<◌, ◌≤◌, List, Option, Some, None, length, refl, inl, inr, arith}
use Rattle.can_conform.specs.declared.judging.Difference.{Difference}
use Rattle.can_conform.specs.declared.judging.Difference.TheVariants as difference
use Rattle.can_conform.specs.declared.judging.Failure.{Failure}
use Rattle.can_conform.specs.declared.judging.Verdict.{Verdict}
use Rattle.can_conform.specs.declared.judging.Verdict.TheVariants.{Pass, Fail}
use Rattle.can_conform.specs.declared.moment.Moment.{Moment}
use Rattle.can_terms.specs.declared.script.Script.{Script}
use Rattle.can_terms.specs.declared.timed.Timed.{Timed}
use Rattle.can_terms.specs.declared.transcript.Ending.{Ending}
use Rattle.can_terms.specs.declared.transcript.Transcript.{Transcript}
use Rattle.can_conform.specs.Runs.{script_end, moment_at, standing_before}
use Rattle.can_terms.specs.Cases.{EndBefore, IsTold}
use Rattle.can_conform.specs.Transcripts.{no_counts, item_at, told_before, Agrees, AgreesAt}
use Rattle.can_conform.specs.Verdicts.{IsFirst, IsVerdict}
use Rattle.can_conform.specs.Walks.{IsDifferenceAt}
use Rattle.can_conform.proofs.AgreementLemmas.{agrees-all, agrees-more, difference-is, some-map}
use Rattle.can_conform.proofs.Deciding.{OrNot, holds, fails, same-counts, same-ending, same-event, same-level, same-option}

-- what is listed, if anything, is this, or something else
is-or-differs : {A B : Type 0} → ((x y : B) → OrNot (x ≡ y)) → (o : Option A) (f : A → B) (b : B) →
    IfSome o (λ x. f x ≡ b) ⊎ ((c : B) × IsSomeAnd o (λ x. f x ≡ c) × (c ≢ b))
is-or-differs decides None f b = inl tt
is-or-differs decides (Some x) f b = elim (decides (f x) b) [
  | holds same ↦ inl same
  | fails other ↦ inr (f x, refl, other)
]

-- a bit time agrees, or has a difference
at-time : (told : Transcript) (t : ℕ) (m : Moment) → AgreesAt told t m ⊎ ((d : Difference) × IsDifferenceAt told t m d)
at-time told t m = elim (same-option same-level (slice_get told.drove.items t) m.drove) [
  | fails other ↦ inr (difference.Level (slice_get told.drove.items t) m.drove, record { is_told = refl; ought = refl; differs = other })
  | holds level ↦ elim (is-or-differs (same-option same-event) told.events (λ events. item_at events.items t) m.event) [
    | inr other ↦ inr (difference.Event other.0 m.event, record { level = level; is_told = other.1; ought = refl; differs = other.2 })
    | inl event ↦ elim (is-or-differs same-counts told.counters (λ counters. told_before no_counts counters.items (t + 1)) m.counters) [
      | inr other ↦ inr (difference.Counters other.0 m.counters, record { level = level; event = event; is_told = other.1; ought = refl; differs = other.2 })
      | inl counters ↦ inl (record { level = level; event = event; counters = counters })
    ]
  ]
]

-- the bit times before n agree, or there is a first difference
before-time : (s : Script) (told : Transcript) (n : ℕ) → ((t : ℕ) → t < n → AgreesAt told t (moment_at s t)) ⊎ ((f : Failure) × IsFirst s told f)
before-time s told zero = inl (λ t less. absurd (omega arith))
before-time s told (suc n) = elim (before-time s told n) [
  | inr first ↦ inr first
  | inl agrees ↦ elim (at-time told n (moment_at s n)) [
    | inl here ↦ inl (λ t less. agrees-more s told n agrees here t (omega arith))
    | inr other ↦
        let f : Failure = record { time = n; difference = other.0; standing = standing_before s n } in
        inr (f, record { before = agrees; here = difference-is s told n (moment_at s n) other.0 refl other.1; standing = refl })
  ]
]

ends-later : {A : Type 0} (xs : List (Timed A)) (early late : ℕ) → EndBefore xs early → early ≤ late → EndBefore xs late
ends-later xs early late ends h = λ n x at. let e : x.time < early = ends n x at in omega arith

-- all bit times agree, or there is a first difference, if all that is listed comes before a limit
all-times : (s : Script) (told : Transcript) (limit : ℕ) → length told.drove.items < limit → IfSome told.events (λ events. EndBefore events.items limit) →
    IfSome told.counters (λ counters. EndBefore counters.items limit) → ((t : ℕ) → AgreesAt told t (moment_at s t)) ⊎ ((f : Failure) × IsFirst s told f)
all-times s told limit levels events counters = elim (before-time s told (length s.tester.items + limit)) [
  | inr first ↦ inr first
  | inl agrees ↦ inl (agrees-all s told (length s.tester.items + limit) (omega arith) (omega arith)
      (some-map _ _ told.events (λ list ends. ends-later list.items limit (length s.tester.items + limit) ends (omega arith)) events)
      (some-map _ _ told.counters (λ list ends. ends-later list.items limit (length s.tester.items + limit) ends (omega arith)) counters) agrees)
]

end-or-differs : (o : Option Ending) (b : Ending) → IfSome o (λ x. x ≡ b) ⊎ ((c : Ending) × (o ≡ Some c) × (c ≢ b))
end-or-differs None b = inl tt
end-or-differs (Some x) b = elim (same-ending x b) [
  | holds same ↦ inl same
  | fails other ↦ inr (x, refl, other)
]

pub some-verdict : (s : Script) (told : Transcript) → IsTold told → (v : Verdict) × IsVerdict s told v
some-verdict s told is = elim (all-times s told (2 ^ 32 - 1) is.levels is.events_end is.counters_end) [
  | inr first ↦ (Fail first.0, first.1)
  | inl agrees ↦ elim (end-or-differs told.end (script_end s)) [
    | inl end ↦ (Pass, let a : Agrees s told = record { each = agrees; end = end } in a)
    | inr other ↦
        let t : ℕ = length s.tester.items in
        let f : Failure = record { time = t; difference = difference.End other.0 (script_end s); standing = standing_before s t } in
        let first : IsFirst s told f = record {
          before = λ u less. agrees u;
          here = record { behind = refl; each = agrees; is_told = other.1; ought = refl; differs = other.2 };
          standing = refl;
        } in
        (Fail f, first)
  ]
]
