-- A case has one transcript, which agrees with its run.
use Rattle.std.specs.Prelude.{slice_get, unwrap_or, if◌then◌else◌, ◌&&◌, IfSome, IsSomeAnd}
use Rattle.std.proofs.Common.{◌≡◌, ◌≢◌, ℕ, zero, suc, ◌+◌, ◌<◌, ◌≤◌, ◌==◌, Bool, true, false, List, [], ◌∷◌, Option, Some, None, length, refl, sym, ap, ◌∙◌, subst, inl, inr, arith}
use Rattle.std.proofs.lemmas.Bool.{cases_order}
use Rattle.std.proofs.lemmas.Bool.Decides.{nat_tests}
use Rattle.can_terms.specs.declared.script.Script.{Script}
use Rattle.can_terms.specs.declared.timed.Timed.{Timed}
use Rattle.can_terms.specs.declared.transcript.Counters.{Counters}
use Rattle.can_terms.specs.declared.transcript.Transcript.{Transcript}
use Rattle.can_terms.proofs.TimedLemmas.{timed-is}
use Rattle.can_conform.specs.Runs.{before, counters_of, script_end, moment_at}
use Rattle.can_terms.specs.Cases.{AreRising}
use Rattle.can_conform.specs.Transcripts.{changed_in, changes_of, driven_upto, events_of, levels_of, no_counts, same_counters, item_at, told_before, told_upto, Agrees, IsTranscript, Tells, TellsRun}
use Rattle.can_conform.proofs.AgreementLemmas.{counters-start}
use Rattle.can_conform.proofs.Drives.{AreDriven, driven-all, driven-next, driven-none}
use Rattle.can_conform.proofs.Growing.{IsToldUpTo, told-all, told-next, told-none}
use Rattle.can_conform.proofs.RunLemmas.{before-first, changed-past, event-past}
use Rattle.can_conform.proofs.TimedLemmas.{rising-ahead, rising-first, rising-rest, item_at-none, told_before-first, told_before_more}

-- ---- there is one

upto-is : {A : Type 0} (at : ℕ → Option A) (n : ℕ) → IsToldUpTo at (told_upto at n) n
unfolding told_upto
upto-is at zero = told-none at
upto-is at (suc n) =
    let e : n + 1 ≡ suc n = omega arith in
    subst (λ k. IsToldUpTo at (told_upto at (suc n)) k) e (told-next at (told_upto at n) n (at n) refl (upto-is at n))

driven-is : (s : Script) (n : ℕ) → n ≤ length s.tester.items → AreDriven s (driven_upto s n) n
unfolding driven_upto
driven-is s zero within = driven-none s
driven-is s (suc n) within =
    let e : n + 1 ≡ suc n = omega arith in
    subst (λ k. AreDriven s (driven_upto s (suc n)) k) e
    (driven-next s (driven_upto s n) n (moment_at s n).drove refl (omega arith) (driven-is s n (omega arith)))

pub one-exists : (s : Script) → TellsRun s (levels_of s) (events_of s) (changes_of s)
one-exists s =
    let n = length s.tester.items in
    record {
      levels = driven-all s (levels_of s) n refl (driven-is s n (omega arith));
      events = told-all (λ t. (moment_at s t).event) (events_of s) n (λ t late. event-past s t late) (upto-is (λ t. (moment_at s t).event) n);
      changes = told-all (changed_in s) (changes_of s) n (λ t late. changed-past s t late) (upto-is (changed_in s) n);
    }

-- ---- and no other

-- lists that have the same at each place
pub same-places : {A : Type 0} (xs ys : List A) → ((n : ℕ) → slice_get xs n ≡ slice_get ys n) → xs ≡ ys
same-places [] [] same = refl
same-places [] (y ∷ ys) same = let e : None ≡ Some y = same 0 in absurd (let k : ⊥ = cc in k)
same-places (x ∷ xs) [] same = let e : Some x ≡ None = same 0 in absurd (let k : ⊥ = cc in k)
same-places (x ∷ xs) (y ∷ ys) same =
    let e : Some x ≡ Some y = same 0 in
    let head : x ≡ y = cc in
    ap (λ z. z ∷ xs) head ∙ ap (λ zs. y ∷ zs) (same-places xs ys (λ n. same (suc n)))

told-first : {A : Type 0} (x : Timed A) (xs : List (Timed A)) → item_at (x ∷ xs) x.time ≡ Some x.told
told-first x xs =
    let here : (x.time == x.time) ≡ true = grind (arith, nat_tests) in
    ap (λ b. if b then Some x.told else item_at xs x.time) here

-- before the first of rising times there is no element
told-early : {A : Type 0} (x : Timed A) (xs : List (Timed A)) (t : ℕ) → AreRising (x ∷ xs) → t < x.time → item_at (x ∷ xs) t ≡ None
told-early x xs t rising early =
    item_at-none (x ∷ xs) t (λ n y at. let h : x.time ≤ y.time = rising-ahead (x ∷ xs) rising 0 n x y (omega arith) refl at in omega arith)

-- after it the element of a time is among the others
told-rest : {A : Type 0} (x : Timed A) (xs : List (Timed A)) (t : ℕ) → x.time ≢ t → item_at (x ∷ xs) t ≡ item_at xs t
told-rest x xs t apart =
    let other : (x.time == t) ≡ false = grind (arith, nat_tests) in
    ap (λ b. if b then Some x.told else item_at xs t) other

-- and none of them has its time
told-once : {A : Type 0} (x : Timed A) (xs : List (Timed A)) (t : ℕ) → AreRising (x ∷ xs) → x.time ≡ t → item_at xs t ≡ None
told-once x xs t rising now = item_at-none xs t (λ n y at. let h : x.time < y.time = rising-first x xs rising n y at in omega arith)

same-rest : {A : Type 0} (x y : Timed A) (xs ys : List (Timed A)) → AreRising (x ∷ xs) → AreRising (y ∷ ys) → x.time ≡ y.time →
    ((t : ℕ) → item_at (x ∷ xs) t ≡ item_at (y ∷ ys) t) → (t : ℕ) → item_at xs t ≡ item_at ys t
same-rest x y xs ys one other time same t = elim (cases_order x.time t) [
  | inl now ↦ told-once x xs t one now ∙ sym (told-once y ys t other (omega arith))
  | inr apart ↦ elim apart [
    | inl less ↦ sym (told-rest x xs t (omega arith)) ∙ same t ∙ told-rest y ys t (omega arith)
    | inr more ↦ sym (told-rest x xs t (omega arith)) ∙ same t ∙ told-rest y ys t (omega arith)
  ]
]

same-first : {A : Type 0} (x y : Timed A) (xs ys : List (Timed A)) → AreRising (x ∷ xs) → AreRising (y ∷ ys) → ((t : ℕ) → item_at (x ∷ xs) t ≡ item_at (y ∷ ys) t) → x ≡ y
same-first x y xs ys one other same = elim (cases_order x.time y.time) [
  | inl time ↦
      let e : Some x.told ≡ Some y.told = sym (told-first x xs) ∙ same x.time ∙ ap (item_at (y ∷ ys)) time ∙ told-first y ys in
      timed-is x y time cc
  | inr apart ↦ elim apart [
    | inl less ↦ let e : Some x.told ≡ None = sym (told-first x xs) ∙ same x.time ∙ told-early y ys x.time other less in absurd (let k : ⊥ = cc in k)
    | inr more ↦ let e : None ≡ Some y.told = sym (told-early x xs y.time one more) ∙ same y.time ∙ told-first y ys in absurd (let k : ⊥ = cc in k)
  ]
]

-- lists with rising times and the same elements are the same
same-told : {A : Type 0} (xs ys : List (Timed A)) → AreRising xs → AreRising ys → ((t : ℕ) → item_at xs t ≡ item_at ys t) → xs ≡ ys
same-told [] [] one other same = refl
same-told [] (y ∷ ys) one other same = let e : None ≡ Some y.told = same y.time ∙ told-first y ys in absurd (let k : ⊥ = cc in k)
same-told (x ∷ xs) [] one other same = let e : Some x.told ≡ None = sym (told-first x xs) ∙ same x.time in absurd (let k : ⊥ = cc in k)
same-told {A} (x ∷ xs) (y ∷ ys) one other same =
    let head : x ≡ y = same-first x y xs ys one other same in
    let time : x.time ≡ y.time = ap (λ (z : Timed A). z.time) head in
    ap (λ z. z ∷ xs) head
    ∙ ap (λ zs. y ∷ zs) (same-told xs ys (rising-rest x xs one) (rising-rest y ys other) (same-rest x y xs ys one other time same))

tells-one : {A : Type 0} (at : ℕ → Option A) (xs ys : List (Timed A)) → Tells at xs → Tells at ys → xs ≡ ys
tells-one at xs ys one other = same-told xs ys one.rising other.rising (λ t. one.each t ∙ sym (other.each t))

-- what is there has this too
some-and : {A : Type 0} (P Q : A → Type 0) (o : Option A) → ((x : A) → P x → Q x) → IsSomeAnd o P → IsSomeAnd o Q
some-and P Q None each p = absurd p
some-and P Q (Some x) each p = each x p

some-if : {A : Type 0} (P Q : A → Type 0) (o : Option A) → ((x : A) → P x → Q x) → IsSomeAnd o P → IfSome o Q
some-if P Q None each p = tt
some-if P Q (Some x) each p = each x p

pub one-levels : (s : Script) (told : Transcript) → IsTranscript s told → told.drove.items ≡ levels_of s
one-levels s told is = same-places told.drove.items (levels_of s) (λ t. is.levels t ∙ sym ((one-exists s).levels t))

pub one-events : (s : Script) (told : Transcript) → IsTranscript s told → IsSomeAnd told.events (λ events. events.items ≡ events_of s)
one-events s told is =
    some-and _ _ told.events (λ events tells. tells-one (λ t. (moment_at s t).event) events.items (events_of s) tells (one-exists s).events) is.events

pub one-counters : (s : Script) (told : Transcript) → IsTranscript s told → IsSomeAnd told.counters (λ changes. changes.items ≡ changes_of s)
one-counters s told is = some-and _ _ told.counters (λ changes tells. tells-one (changed_in s) changes.items (changes_of s) tells (one-exists s).changes) is.counters

-- ---- it agrees

counters-are : (c d : Counters) → c.transmit ≡ d.transmit → c.receive ≡ d.receive → c ≡ d
counters-are c d transmit receive =
    ap (λ n. let r : Counters = record { transmit = n; receive = c.receive } in r) transmit
    ∙ ap (λ n. let r : Counters = record { transmit = d.transmit; receive = n } in r) receive

-- counters that are held until they change are those that are
held-or-changed : (now held : Counters) → unwrap_or (if same_counters now held then None else Some now) held ≡ now
held-or-changed now held =
    let pick : Bool → Counters = λ b. unwrap_or (if b then None else Some now) held in
    elim (cases_order now.transmit held.transmit) [
      | inl transmit ↦
          let one : (now.transmit == held.transmit) ≡ true = grind (arith, nat_tests) in
          elim (cases_order now.receive held.receive) [
            | inl receive ↦
                let other : (now.receive == held.receive) ≡ true = grind (arith, nat_tests) in
                let same : same_counters now held ≡ true = ap (λ b. b && (now.receive == held.receive)) one ∙ other in
                ap pick same ∙ sym (counters-are now held transmit receive)
            | inr apart ↦
                let other : (now.receive == held.receive) ≡ false = elim apart [ inl less ↦ grind (arith, nat_tests) | inr more ↦ grind (arith, nat_tests) ] in
                let differ : same_counters now held ≡ false = ap (λ b. b && (now.receive == held.receive)) one ∙ other in
                ap pick differ
          ]
      | inr apart ↦
          let one : (now.transmit == held.transmit) ≡ false = elim apart [ inl less ↦ grind (arith, nat_tests) | inr more ↦ grind (arith, nat_tests) ] in
          let differ : same_counters now held ≡ false = ap (λ b. b && (now.receive == held.receive)) one in
          ap pick differ
    ]

counters-told : (s : Script) (xs : List (Timed Counters)) → Tells (changed_in s) xs → (t : ℕ) → told_before no_counts xs t ≡ counters_of (before s t)
counters-told s xs tells zero = told_before-first no_counts xs ∙ counters-start s.start ∙ sym (ap counters_of (before-first s))
counters-told s xs tells (suc t) =
    let next : told_before no_counts xs (t + 1) ≡ counters_of (before s (t + 1)) =
    told_before_more no_counts xs t tells.rising
    ∙ ap (λ o. unwrap_or o (told_before no_counts xs t)) (tells.each t)
    ∙ ap (λ c. unwrap_or (changed_in s t) c) (counters-told s xs tells t)
    ∙ held-or-changed (counters_of (before s (t + 1))) (counters_of (before s t)) in
    let e : t + 1 ≡ suc t = omega arith in
    subst (λ k. told_before no_counts xs k ≡ counters_of (before s k)) e next

pub one-agrees : (s : Script) (told : Transcript) → IsTranscript s told → Agrees s told
one-agrees s told is = record {
  each = λ t. record {
    level = is.levels t;
    event = some-if _ _ told.events (λ events tells. tells.each t) is.events;
    counters = some-if _ _ told.counters (λ changes tells. counters-told s changes.items tells (t + 1)) is.counters;
  };
  end = subst (λ o. IfSome o (λ end. end ≡ script_end s)) (sym is.end) refl;
}
