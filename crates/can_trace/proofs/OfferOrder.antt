-- The offers of a scenario in the order of time.
use Rattle.std.specs.Prelude.{filter, not, ◌&&◌}
use denote.Param.Members.{Mut}
use denote.Ref.{Bor}
use Rattle.std.specs.Fn.{Called, ComputesKey}
use Rattle.std.proofs.lemmas.Fn.{always_returns_same}
use Rattle.std.specs.Ordering.{nat_cmp, is_lt}
use Rattle.std.specs.List.Sorted.{IsNonDecreasingBy, IsPermutation, IsStableByKey, ties}
use Rattle.std.proofs.Common.{◌≡◌, ◌≢◌, ℕ, zero, suc, ◌<◌, ◌≤◌, Bool, true, false, List, [], ◌∷◌, length, get_or, refl, sym, ap, subst, ◌∙◌, inl, inr, arith}
use Rattle.std.proofs.Math.Dec.{eqb, leb}
use Rattle.std.proofs.lemmas.Bool.Decides.{nat_tests}
use Rattle.std.proofs.lemmas.Bool.{cond-true, cond-false, cases_Bool, cases_eq, cases_lt, cases_order, eq-eqb, le-leb, lt-leb, ne_eqb}
use Rattle.std.proofs.lemmas.List.Elements.{filter_agree}
use Rattle.std.proofs.lemmas.List.Sorted.{IsPermutation-cons, IsPermutation-middle, IsPermutation-refl, IsPermutation-trans}
use Rattle.can_bus.specs.declared.offer.Offer.{Offer}
use Rattle.can_bus.proofs.Members.{Stands, stands-here, stands-later}
use Rattle.can_trace.specs.ScenarioOffers.{IsInTimeOrder, in_time, offers_at, put_in_time}

-- ---- offers whose times rise

-- none is earlier than this time
abbrev pub AreFrom : ℕ → List Offer → Type 0
AreFrom t [] = Unit {0}
AreFrom t (o ∷ os) = (t ≤ o.time) × AreFrom t os

-- none is earlier than one before it
abbrev pub Rise : List Offer → Type 0
Rise [] = Unit {0}
Rise (o ∷ os) = AreFrom o.time os × Rise os

from-each : (t : ℕ) (os : List Offer) → ((j : ℕ) (d : Offer) → j < length os → t ≤ (get_or os j d).time) → AreFrom t os
from-each t [] each = tt
from-each t (o ∷ os) each = (each 0 o (omega arith), from-each t os (λ j d within. each (suc j) d (omega arith)))

each-from : (t : ℕ) (os : List Offer) → AreFrom t os → (j : ℕ) (d : Offer) → j < length os → t ≤ (get_or os j d).time
each-from t [] from j d within = absurd (omega arith)
each-from t (o ∷ os) from zero d within = from.0
each-from t (o ∷ os) from (suc j) d within = each-from t os from.1 j d (omega arith)

pub rise-from : (os : List Offer) → IsNonDecreasingBy (λ (o : Offer). o.time) os → Rise os
rise-from [] rising = tt
rise-from (o ∷ os) rising = (
  from-each o.time os (λ j d within. rising 0 (suc j) d (omega arith) (omega arith)),
  rise-from os (λ i j d order within. rising (suc i) (suc j) d (omega arith) (omega arith)),
)

pub from-rise : (os : List Offer) → Rise os → IsNonDecreasingBy (λ (o : Offer). o.time) os
from-rise [] rise i j d order within = absurd (omega arith)
from-rise (o ∷ os) rise zero zero d order within = omega arith
from-rise (o ∷ os) rise zero (suc j) d order within = each-from o.time os rise.0 j d (omega arith)
from-rise (o ∷ os) rise (suc i) zero d order within = absurd (omega arith)
from-rise (o ∷ os) rise (suc i) (suc j) d order within = from-rise os rise.1 i j d (omega arith) (omega arith)

from-earlier : (s t : ℕ) (os : List Offer) → s ≤ t → AreFrom t os → AreFrom s os
from-earlier s t [] less from = tt
from-earlier s t (o ∷ os) less from = ((let later = from.0 in omega (arith, later, less)), from-earlier s t os less from.1)

-- ---- those of one time

module _ (o : Offer) (os : List Offer) (t : ℕ) where
  at-here : o.time ≡ t → offers_at t (o ∷ os) ≡ o ∷ offers_at t os
  at-here now = cond-true (eqb o.time t) (o ∷ offers_at t os) (offers_at t os) (eq-eqb o.time t now)

  at-other : o.time ≢ t → offers_at t (o ∷ os) ≡ offers_at t os
  at-other other = cond-false (eqb o.time t) (o ∷ offers_at t os) (offers_at t os) (ne_eqb o.time t other)

none-at : (s t : ℕ) (os : List Offer) → AreFrom s os → t < s → offers_at t os ≡ []
none-at s t [] from before = refl
none-at s t (o ∷ os) from before = at-other o os t (λ e. let later = from.0 in omega (arith, later, e, before)) ∙ none-at s t os from.1 before

-- ---- an offer at its place

module _ (o next : Offer) (os : List Offer) where
  pub put-here : o.time ≤ next.time → put_in_time o (next ∷ os) ≡ o ∷ next ∷ os
  put-here early = cond-true (leb o.time next.time) (o ∷ next ∷ os) (next ∷ put_in_time o os) (le-leb o.time next.time early)

  put-later : next.time < o.time → put_in_time o (next ∷ os) ≡ next ∷ put_in_time o os
  put-later late = cond-false (leb o.time next.time) (o ∷ next ∷ os) (next ∷ put_in_time o os) (lt-leb o.time next.time late)

from-put : (t : ℕ) (o : Offer) (os : List Offer) → t ≤ o.time → AreFrom t os → AreFrom t (put_in_time o os)
from-put t o [] here from = (here, tt)
from-put t o (next ∷ os) here from = elim (cases_lt next.time o.time) [
  | inl late ↦ subst (AreFrom t) (sym (put-later o next os late)) (from.0, from-put t o os here from.1)
  | inr early ↦ subst (AreFrom t) (sym (put-here o next os early)) (here, from)
]

rise-put : (o : Offer) (os : List Offer) → Rise os → Rise (put_in_time o os)
rise-put o [] rise = (tt, tt)
rise-put o (next ∷ os) rise = elim (cases_lt next.time o.time) [
  | inl late ↦ subst Rise (sym (put-later o next os late)) (from-put next.time o os (omega (arith, late)) rise.0, rise-put o os rise.1)
  | inr early ↦ subst Rise (sym (put-here o next os early)) ((early, from-earlier o.time next.time os early rise.0), rise)
]

put-at : (t : ℕ) (o : Offer) (os : List Offer) → offers_at t (put_in_time o os) ≡ offers_at t (o ∷ os)
put-at t o [] = refl
put-at t o (next ∷ os) = elim (cases_lt next.time o.time) [
  | inl late ↦
      ap (offers_at t) (put-later o next os late)
      ∙ (elim (cases_eq next.time t) [
        | inl now ↦
            at-here next (put_in_time o os) t now ∙ ap (λ l. next ∷ l) (put-at t o os ∙ at-other o os t (λ e. omega (arith, e, late, now)))
            ∙ sym (at-other o (next ∷ os) t (λ e. omega (arith, e, late, now)) ∙ at-here next os t now)
        | inr other ↦
            at-other next (put_in_time o os) t other ∙ put-at t o os
            ∙ (elim (cases_eq o.time t) [
              | inl now ↦ at-here o os t now ∙ sym (at-here o (next ∷ os) t now ∙ ap (λ l. o ∷ l) (at-other next os t other))
              | inr apart ↦ at-other o os t apart ∙ sym (at-other o (next ∷ os) t apart ∙ at-other next os t other)
            ])
      ])
  | inr early ↦ ap (offers_at t) (put-here o next os early)
]

-- ---- all offers

pub in_time-rise : (os : List Offer) → Rise (in_time os)
unfolding in_time
in_time-rise [] = tt
in_time-rise (o ∷ os) = rise-put o (in_time os) (in_time-rise os)

pub in_time-at : (t : ℕ) (os : List Offer) → offers_at t (in_time os) ≡ offers_at t os
unfolding in_time
in_time-at t [] = refl
in_time-at t (o ∷ os) =
    put-at t o (in_time os)
    ∙ (elim (cases_eq o.time t) [
      | inl now ↦ at-here o (in_time os) t now ∙ ap (λ l. o ∷ l) (in_time-at t os) ∙ sym (at-here o os t now)
      | inr other ↦ at-other o (in_time os) t other ∙ in_time-at t os ∙ sym (at-other o os t other)
    ])

pub in_time-is : (os : List Offer) → IsInTimeOrder os (in_time os)
in_time-is os = record { rising = from-rise (in_time os) (in_time-rise os); same = λ t. in_time-at t os }

-- there is no other list in the order of time
same-offers : (a b : List Offer) → Rise a → Rise b → ((t : ℕ) → offers_at t a ≡ offers_at t b) → a ≡ b
same-offers [] [] rise risen same = refl
same-offers [] (y ∷ b) rise risen same = let e : [] ≡ y ∷ offers_at y.time b = same y.time ∙ at-here y b y.time refl in absurd (cc)
same-offers (x ∷ a) [] rise risen same = let e : x ∷ offers_at x.time a ≡ [] = sym (at-here x a x.time refl) ∙ same x.time in absurd (cc)
same-offers (x ∷ a) (y ∷ b) rise risen same = elim (cases_order x.time y.time) [
  | inl now ↦
      let both : x ∷ offers_at x.time a ≡ y ∷ offers_at x.time b = sym (at-here x a x.time refl) ∙ same x.time ∙ at-here y b x.time (sym now) in
      let first : x ≡ y = cc in
      let others : (t : ℕ) → offers_at t a ≡ offers_at t b = λ t.
      elim (cases_eq x.time t) [
        | inl here ↦ subst (λ s. offers_at s a ≡ offers_at s b) here (cc)
        | inr other ↦ sym (at-other x a t other) ∙ same t ∙ at-other y b t (λ e. other (now ∙ e))
      ] in
      ap (λ o. o ∷ a) first ∙ ap (λ l. y ∷ l) (same-offers a b rise.1 risen.1 others)
  | inr apart ↦ elim apart [
    | inl less ↦
        let e : x ∷ offers_at x.time a ≡ [] =
        sym (at-here x a x.time refl) ∙ same x.time ∙ at-other y b x.time (λ e. omega (arith, e, less)) ∙ none-at y.time x.time b risen.0 less in
        absurd (cc)
    | inr more ↦
        let e : [] ≡ y ∷ offers_at y.time b =
        sym (at-other x a y.time (λ e. omega (arith, e, more)) ∙ none-at x.time y.time a rise.0 more) ∙ same y.time ∙ at-here y b y.time refl in
        absurd (cc)
  ]
]

pub one-order : (os ordered : List Offer) → IsInTimeOrder os ordered → ordered ≡ in_time os
one-order os ordered are = same-offers ordered (in_time os) (rise-from ordered are.rising) (in_time-rise os) (λ t. are.same t ∙ sym (in_time-at t os))

-- offers of time 0 stay as they are
put-first : (o : Offer) (os : List Offer) → o.time ≡ 0 → put_in_time o os ≡ o ∷ os
put-first o [] first = refl
put-first o (next ∷ os) first = put-here o next os (omega (arith, first))

pub in_time-first : (os : List Offer) → ((o : Offer) → Stands os o → o.time ≡ 0) → in_time os ≡ os
unfolding in_time
in_time-first [] first = refl
in_time-first (o ∷ os) first = ap (put_in_time o) (in_time-first os (λ p there. first p (stands-later o os p there))) ∙ put-first o os (first o (stands-here o os))

-- ---- the same offers

module _ (p : Offer → Bool) where
  taken-in : (o : Offer) (os : List Offer) → p o ≡ true → filter p (o ∷ os) ≡ o ∷ filter p os
  taken-in o os passes = cond-true (p o) (o ∷ filter p os) (filter p os) passes

  left-out : (o : Offer) (os : List Offer) → p o ≡ false → filter p (o ∷ os) ≡ filter p os
  left-out o os fails = cond-false (p o) (o ∷ filter p os) (filter p os) fails

  abbrev AreSame : List Offer → List Offer → Type 0
  AreSame a b = IsPermutation (filter p a) (filter p b)

  same-more : (o : Offer) (a b : List Offer) → AreSame a b → AreSame (o ∷ a) (o ∷ b)
  same-more o a b same = elim (cases_Bool (p o)) [
    | inl passes ↦
        subst (λ l. IsPermutation l (filter p (o ∷ b))) (sym (taken-in o a passes))
        (subst (IsPermutation (o ∷ filter p a)) (sym (taken-in o b passes)) (IsPermutation-cons o (filter p a) (filter p b) same))
    | inr fails ↦
        subst (λ l. IsPermutation l (filter p (o ∷ b))) (sym (left-out o a fails)) (subst (IsPermutation (filter p a)) (sym (left-out o b fails)) same)
  ]

  same-swap : (o next : Offer) (os : List Offer) → AreSame (next ∷ o ∷ os) (o ∷ next ∷ os)
  same-swap o next os = elim (cases_Bool (p o)) [
    | inl passes ↦
        (elim (cases_Bool (p next)) [
          | inl both ↦
              subst (λ l. IsPermutation l (filter p (o ∷ next ∷ os))) (sym (taken-in next (o ∷ os) both ∙ ap (λ l. next ∷ l) (taken-in o os passes)))
              (subst (IsPermutation (next ∷ o ∷ filter p os)) (sym (taken-in o (next ∷ os) passes ∙ ap (λ l. o ∷ l) (taken-in next os both)))
              (IsPermutation-middle (next ∷ []) o (filter p os)))
          | inr fails ↦
              subst (IsPermutation (filter p (next ∷ o ∷ os)))
              (left-out next (o ∷ os) fails ∙ taken-in o os passes ∙ sym (taken-in o (next ∷ os) passes ∙ ap (λ l. o ∷ l) (left-out next os fails)))
              (IsPermutation-refl (filter p (next ∷ o ∷ os)))
        ])
    | inr fails ↦
        subst (IsPermutation (filter p (next ∷ o ∷ os)))
        (elim (cases_Bool (p next)) [
          | inl passes ↦ taken-in next (o ∷ os) passes ∙ ap (λ l. next ∷ l) (left-out o os fails) ∙ sym (left-out o (next ∷ os) fails ∙ taken-in next os passes)
          | inr neither ↦ left-out next (o ∷ os) neither ∙ left-out o os fails ∙ sym (left-out o (next ∷ os) fails ∙ left-out next os neither)
        ])
        (IsPermutation-refl (filter p (next ∷ o ∷ os)))
  ]

  put-same : (o : Offer) (os : List Offer) → AreSame (put_in_time o os) (o ∷ os)
  put-same o [] = IsPermutation-refl (filter p (o ∷ []))
  put-same o (next ∷ os) = elim (cases_lt next.time o.time) [
    | inl late ↦
        subst (λ l. AreSame l (o ∷ next ∷ os)) (sym (put-later o next os late))
        (IsPermutation-trans (filter p (next ∷ put_in_time o os)) (filter p (next ∷ o ∷ os)) (filter p (o ∷ next ∷ os))
        (same-more next (put_in_time o os) (o ∷ os) (put-same o os)) (same-swap o next os))
    | inr early ↦ subst (λ l. AreSame l (o ∷ next ∷ os)) (sym (put-here o next os early)) (IsPermutation-refl (filter p (o ∷ next ∷ os)))
  ]

  -- those that pass a test are the same, in another order
  pub in_time-filter : (os : List Offer) → IsPermutation (filter p (in_time os)) (filter p os)
  unfolding in_time
  in_time-filter [] = IsPermutation-refl []
  in_time-filter (o ∷ os) =
      IsPermutation-trans (filter p (put_in_time o (in_time os))) (filter p (o ∷ in_time os)) (filter p (o ∷ os))
      (put-same o (in_time os)) (same-more o (in_time os) os (in_time-filter os))

filter-all : (os : List Offer) → filter (λ o. true) os ≡ os
filter-all [] = refl
filter-all (o ∷ os) = ap (λ l. o ∷ l) (filter-all os)

pub in_time-permuted : (os : List Offer) → IsPermutation (in_time os) os
in_time-permuted os =
    subst (λ l. IsPermutation l os) (filter-all (in_time os)) (subst (IsPermutation (filter (λ (o : Offer). true) (in_time os))) (filter-all os) (in_time-filter (λ o. true) os))

-- ---- what a stable sort by time gives

abbrev earlier : Offer → Offer → Bool
earlier x y = is_lt (nat_cmp x.time y.time)

tie-is : (a b : ℕ) → (not (is_lt (nat_cmp a b)) && not (is_lt (nat_cmp b a))) ≡ eqb b a
tie-is a b = grind (arith, nat_tests)

-- from the clause `stable` of `sort_by_key`, if each call gives an offer's time
pub stable-from_sort_by_key : {F : Type 0} {g : Mut F (Bor Offer × Unit {0}) ℕ} {f : F} (xs ys : List Offer) → ((key : Offer → ℕ) → ComputesKey g key f → IsStableByKey key nat_cmp xs ys) →
    ((a : Bor Offer × Unit {0}) (r : ℕ) (f' : F) → Called g f a r f' → (r ≡ a.0.now.time) × (f' ≡ f)) → IsStableByKey (λ (o : Offer). o.time) nat_cmp xs ys
stable-from_sort_by_key {g = g} {f = f} xs ys stable h = stable (λ (o : Offer). o.time) (always_returns_same g (λ a r. r ≡ a.0.now.time) f h)

pub sorted-in_time : (os ordered : List Offer) → IsNonDecreasingBy (λ (o : Offer). o.time) ordered → IsStableByKey (λ (o : Offer). o.time) nat_cmp os ordered → ordered ≡ in_time os
sorted-in_time os ordered rising stable =
    let one : ℕ → Offer = λ t. record { time = t; node = 0; frame = record { id = record { raw = 0; extended = false }; remote = false; dlc = 0; bytes = [] } } in
    one-order os ordered (record {
      rising = rising;
      same = λ t.
          sym (filter_agree (ties earlier (one t)) (λ (o : Offer). eqb o.time t) (λ o. tie-is t o.time) ordered)
          ∙ stable (one t)
          ∙ filter_agree (ties earlier (one t)) (λ (o : Offer). eqb o.time t) (λ o. tie-is t o.time) os;
    })
