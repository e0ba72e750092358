-- A transcript has one verdict.
use Rattle.std.specs.Prelude.{slice_get, IfSome, IsSomeAnd}
use Rattle.std.proofs.Common.{◌≡◌, ℕ, ◌+◌, ◌<◌, Option, Some, None, length, refl, sym, ap, ◌∙◌, subst, inl, inr, arith}
use Rattle.std.proofs.lemmas.Bool.{cases_order}
use Rattle.can_frame.specs.declared.level.Level.{Level}
use Rattle.can_terms.specs.declared.event.Event.{Event}
use Rattle.can_conform.specs.declared.judging.Difference.{Difference}
use Rattle.can_conform.specs.declared.judging.Difference.TheVariants as difference
use Rattle.can_conform.specs.declared.judging.Failure.{Failure}
use Rattle.can_conform.specs.declared.judging.Verdict.{Verdict}
use Rattle.can_conform.specs.declared.judging.Verdict.TheVariants.{Pass, Fail}
use Rattle.can_conform.specs.declared.moment.Moment.{Moment}
use Rattle.can_terms.specs.declared.script.Script.{Script}
use Rattle.can_terms.specs.declared.transcript.Counters.{Counters}
use Rattle.can_terms.specs.declared.transcript.Ending.{Ending}
use Rattle.can_terms.specs.declared.transcript.Transcript.{Transcript}
use Rattle.can_conform.specs.Runs.{script_end, moment_at, standing_before}
use Rattle.can_conform.specs.Transcripts.{no_counts, item_at, told_before, Agrees, AgreesAt}
use Rattle.can_conform.specs.Verdicts.{AreCounters, IsDifference, IsEnd, IsEvent, IsFirst, IsLevel, IsVerdict}

-- two facts of what is there
there-both : {A : Type 0} (P Q : A → Type 0) (B : Type 0) (o : Option A) → ((x : A) → P x → Q x → B) → IsSomeAnd o P → IfSome o Q → B
there-both P Q B None take p q = absurd p
there-both P Q B (Some x) take p q = take x p q

there-twice : {A : Type 0} (P Q : A → Type 0) (B : Type 0) (o : Option A) → ((x : A) → P x → Q x → B) → IsSomeAnd o P → IsSomeAnd o Q → B
there-twice P Q B None take p q = absurd p
there-twice P Q B (Some x) take p q = take x p q

-- ---- what agrees doesn't differ

no-level : (told : Transcript) (t : ℕ) (m : Moment) (one other : Option Level) → IsLevel told t m one other → slice_get told.drove.items t ≡ m.drove → ⊥
no-level told t m one other is agrees = is.differs (sym is.is_told ∙ agrees ∙ is.ought)

no-event : (told : Transcript) (t : ℕ) (m : Moment) (one other : Option Event) → IsEvent told t m one other → IfSome told.events (λ events. item_at events.items t ≡ m.event) → ⊥
no-event told t m one other is agrees = is.differs (there-both _ _ _ told.events (λ events a b. sym a ∙ b ∙ is.ought) is.is_told agrees)

no-counters : (told : Transcript) (t : ℕ) (m : Moment) (one other : Counters) → AreCounters told t m one other →
    IfSome told.counters (λ counters. told_before no_counts counters.items (t + 1) ≡ m.counters) → ⊥
no-counters told t m one other are agrees = are.differs (there-both _ _ _ told.counters (λ counters a b. sym a ∙ b ∙ are.ought) are.is_told agrees)

no-end : (s : Script) (told : Transcript) (t : ℕ) (one other : Ending) → IsEnd s told t one other → IfSome told.end (λ end. end ≡ script_end s) → ⊥
no-end s told t one other is agrees =
    let same : one ≡ script_end s = subst (λ o. IfSome o (λ end. end ≡ script_end s)) is.is_told agrees in
    is.differs (same ∙ is.ought)

-- if a bit time agrees and there is a difference, it is that of the end
ends-there : (s : Script) (told : Transcript) (t : ℕ) (d : Difference) → AgreesAt told t (moment_at s t) → IsDifference s told t d →
    (t ≡ length s.tester.items) × ((u : ℕ) → AgreesAt told u (moment_at s u))
ends-there s told t (difference.Level one other) agrees is = absurd (no-level told t (moment_at s t) one other is agrees.level)
ends-there s told t (difference.Event one other) agrees is = absurd (no-event told t (moment_at s t) one other is agrees.event)
ends-there s told t (difference.Counters one other) agrees is = absurd (no-counters told t (moment_at s t) one other is agrees.counters)
ends-there s told t (difference.End one other) agrees is = (is.behind, is.each)

agrees-not : (s : Script) (told : Transcript) (t : ℕ) (d : Difference) → Agrees s told → IsDifference s told t d → ⊥
agrees-not s told t (difference.Level one other) agrees is = no-level told t (moment_at s t) one other is (agrees.each t).level
agrees-not s told t (difference.Event one other) agrees is = no-event told t (moment_at s t) one other is (agrees.each t).event
agrees-not s told t (difference.Counters one other) agrees is = no-counters told t (moment_at s t) one other is (agrees.each t).counters
agrees-not s told t (difference.End one other) agrees is = no-end s told t one other is agrees.end

pub one-or-other : (s : Script) (told : Transcript) (failure : Failure) → Agrees s told → IsFirst s told failure → ⊥
one-or-other s told failure agrees first = agrees-not s told failure.time failure.difference agrees first.here

-- ---- one first difference

never-earlier : (s : Script) (told : Transcript) (one other : Failure) → IsFirst s told one → IsFirst s told other → one.time < other.time → ⊥
never-earlier s told one other first second less =
    let end = ends-there s told one.time one.difference (second.before one.time less) first.here in
    let again = ends-there s told other.time other.difference (end.1 other.time) second.here in
    let here : one.time ≡ length s.tester.items = end.0 in
    let there : other.time ≡ length s.tester.items = again.0 in
    omega (arith, less, here, there)

same-time : (s : Script) (told : Transcript) (one other : Failure) → IsFirst s told one → IsFirst s told other → one.time ≡ other.time
same-time s told one other first second = elim (cases_order one.time other.time) [
  | inl same ↦ same
  | inr apart ↦ elim apart [
    | inl less ↦ absurd (never-earlier s told one other first second less)
    | inr more ↦ absurd (never-earlier s told other one second first more)
  ]
]

same-difference : (s : Script) (told : Transcript) (t : ℕ) (d e : Difference) → IsDifference s told t d → IsDifference s told t e → d ≡ e
same-difference s told t (difference.Level a b) (difference.Level x y) one other =
    ap (λ k. difference.Level k b) (sym one.is_told ∙ other.is_told) ∙ ap (λ k. difference.Level x k) (sym one.ought ∙ other.ought)
same-difference s told t (difference.Level a b) (difference.Event x y) one other = absurd (no-level told t (moment_at s t) a b one other.level)
same-difference s told t (difference.Level a b) (difference.Counters x y) one other = absurd (no-level told t (moment_at s t) a b one other.level)
same-difference s told t (difference.Level a b) (difference.End x y) one other = absurd (no-level told t (moment_at s t) a b one (other.each t).level)
same-difference s told t (difference.Event a b) (difference.Level x y) one other = absurd (no-level told t (moment_at s t) x y other one.level)
same-difference s told t (difference.Event a b) (difference.Event x y) one other =
    ap (λ k. difference.Event k b) (there-twice _ _ _ told.events (λ events p q. sym p ∙ q) one.is_told other.is_told)
    ∙ ap (λ k. difference.Event x k) (sym one.ought ∙ other.ought)
same-difference s told t (difference.Event a b) (difference.Counters x y) one other = absurd (no-event told t (moment_at s t) a b one other.event)
same-difference s told t (difference.Event a b) (difference.End x y) one other = absurd (no-event told t (moment_at s t) a b one (other.each t).event)
same-difference s told t (difference.Counters a b) (difference.Level x y) one other = absurd (no-level told t (moment_at s t) x y other one.level)
same-difference s told t (difference.Counters a b) (difference.Event x y) one other = absurd (no-event told t (moment_at s t) x y other one.event)
same-difference s told t (difference.Counters a b) (difference.Counters x y) one other =
    ap (λ k. difference.Counters k b) (there-twice _ _ _ told.counters (λ counters p q. sym p ∙ q) one.is_told other.is_told)
    ∙ ap (λ k. difference.Counters x k) (sym one.ought ∙ other.ought)
same-difference s told t (difference.Counters a b) (difference.End x y) one other = absurd (no-counters told t (moment_at s t) a b one (other.each t).counters)
same-difference s told t (difference.End a b) (difference.Level x y) one other = absurd (no-level told t (moment_at s t) x y other (one.each t).level)
same-difference s told t (difference.End a b) (difference.Event x y) one other = absurd (no-event told t (moment_at s t) x y other (one.each t).event)
same-difference s told t (difference.End a b) (difference.Counters x y) one other = absurd (no-counters told t (moment_at s t) x y other (one.each t).counters)
same-difference s told t (difference.End a b) (difference.End x y) one other =
    let e : Some a ≡ Some x = sym one.is_told ∙ other.is_told in
    let same : a ≡ x = cc in
    ap (λ k. difference.End k b) same ∙ ap (λ k. difference.End x k) (sym one.ought ∙ other.ought)

pub first-alone : (s : Script) (told : Transcript) (one other : Failure) → IsFirst s told one → IsFirst s told other → one ≡ other
first-alone s told one other first second =
    let time : one.time ≡ other.time = same-time s told one other first second in
    let here = subst (λ t. IsDifference s told t other.difference) (sym time) second.here in
    ap (λ t. let f : Failure = record { time = t; difference = one.difference; standing = one.standing } in f) time
    ∙ ap (λ d. let f : Failure = record { time = other.time; difference = d; standing = one.standing } in f)
    (same-difference s told one.time one.difference other.difference first.here here)
    ∙ ap (λ x. let f : Failure = record { time = other.time; difference = other.difference; standing = x } in f)
    (first.standing ∙ ap (standing_before s) time ∙ sym second.standing)

pub verdict-alone : (s : Script) (told : Transcript) (one other : Verdict) → IsVerdict s told one → IsVerdict s told other → one ≡ other
verdict-alone s told Pass Pass first second = refl
verdict-alone s told Pass (Fail failure) first second = absurd (one-or-other s told failure first second)
verdict-alone s told (Fail failure) Pass first second = absurd (one-or-other s told failure second first)
verdict-alone s told (Fail one) (Fail other) first second = ap (λ f. Fail f) (first-alone s told one other first second)
