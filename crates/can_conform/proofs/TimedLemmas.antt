-- Lists of timed things.
use Rattle.std.specs.Prelude.{slice_get, nat_lt, if◌then◌else◌, unwrap_or}
use Rattle.std.proofs.Common.{◌≡◌, ◌≢◌, ℕ, zero, suc, ◌+◌, ◌<◌, ◌≤◌, ◌==◌, true, false, List, [], ◌∷◌, Some, None, length, refl, sym, ap, ◌∙◌, inl, inr, arith}
use Rattle.std.proofs.lemmas.Bool.{cases_order}
use Rattle.std.proofs.lemmas.Bool.Decides.{nat_tests}
use Rattle.std.proofs.lemmas.Option.{slice_get_within}
use Rattle.can_terms.specs.declared.timed.Timed.{Timed}
use Rattle.can_terms.specs.Cases.{AreRising, EndBefore}
use Rattle.can_conform.specs.Transcripts.{item_at, told_before}
use Rattle.can_conform.specs.Walks.{HasWalked}

-- ---- the element of a time

pub item_at-none : {A : Type 0} (xs : List (Timed A)) (t : ℕ) → ((n : ℕ) (x : Timed A) → slice_get xs n ≡ Some x → x.time ≢ t) → item_at xs t ≡ None
item_at-none [] t none = refl
item_at-none (x ∷ xs) t none =
    let apart : x.time ≢ t = none 0 x refl in
    let other : (x.time == t) ≡ false = grind (arith, nat_tests) in
    ap (λ b. if b then Some x.told else item_at xs t) other ∙ item_at-none xs t (λ n y at. none (suc n) y at)

pub item_at-here : {A : Type 0} (xs : List (Timed A)) (place t : ℕ) (x : Timed A) → slice_get xs place ≡ Some x → x.time ≡ t
    → ((n : ℕ) (y : Timed A) → n < place → slice_get xs n ≡ Some y → y.time ≢ t) → item_at xs t ≡ Some x.told
item_at-here [] place t x at now before = let e : None ≡ Some x = at in cc
item_at-here {A} (y ∷ xs) zero t x at now before =
    let e : Some y ≡ Some x = at in
    let same : y ≡ x = cc in
    let time : y.time ≡ t = ap (λ (z : Timed A). z.time) same ∙ now in
    let here : (y.time == t) ≡ true = grind (arith, nat_tests) in
    ap (λ b. if b then Some y.told else item_at xs t) here ∙ ap (λ (z : Timed A). Some z.told) same
item_at-here (y ∷ xs) (suc place) t x at now before =
    let apart : y.time ≢ t = before 0 y (omega arith) refl in
    let other : (y.time == t) ≡ false = grind (arith, nat_tests) in
    ap (λ b. if b then Some y.told else item_at xs t) other ∙ item_at-here xs place t x at now (λ n z h there. before (suc n) z (omega arith) there)

pub item_at-past : {A : Type 0} (xs : List (Timed A)) (end t : ℕ) → EndBefore xs end → end ≤ t → item_at xs t ≡ None
item_at-past xs end t ends past = item_at-none xs t (λ n x at. let h : x.time < end = ends n x at in omega arith)

-- ---- rising times

pub rising-rest : {A : Type 0} (x : Timed A) (xs : List (Timed A)) → AreRising (x ∷ xs) → AreRising xs
rising-rest x xs rising = λ m n a b h at to. rising (suc m) (suc n) a b (omega arith) at to

pub rising-first : {A : Type 0} (x : Timed A) (xs : List (Timed A)) → AreRising (x ∷ xs) → (n : ℕ) (y : Timed A) → slice_get xs n ≡ Some y → x.time < y.time
rising-first x xs rising n y at = rising 0 (suc n) x y (omega arith) refl at

pub rising-ahead : {A : Type 0} (xs : List (Timed A)) → AreRising xs → (m n : ℕ) (x y : Timed A) → m ≤ n → slice_get xs m ≡ Some x → slice_get xs n ≡ Some y → x.time ≤ y.time
rising-ahead xs rising m n x y h at to = elim (cases_order m n) [
  | inl same ↦
      let e : Some x ≡ Some y = sym at ∙ ap (slice_get xs) same ∙ to in
      let t : x.time ≡ y.time = cc in omega arith
  | inr apart ↦ elim apart [
    | inl less ↦ let k : x.time < y.time = rising m n x y less at to in omega arith
    | inr more ↦ absurd (omega arith)
  ]
]

-- ---- the last element before a time

pub told_before-first : {A : Type 0} (held : A) (xs : List (Timed A)) → told_before held xs 0 ≡ held
told_before-first held [] = refl
told_before-first held (x ∷ xs) =
    let never : nat_lt x.time 0 ≡ false = grind (arith, nat_tests) in
    ap (λ b. if b then told_before x.told xs 0 else held) never

told_before-ahead : {A : Type 0} (held : A) (xs : List (Timed A)) (t : ℕ) → ((n : ℕ) (x : Timed A) → slice_get xs n ≡ Some x → t ≤ x.time) → told_before held xs t ≡ held
told_before-ahead held [] t ahead = refl
told_before-ahead held (x ∷ xs) t ahead =
    let later : t ≤ x.time = ahead 0 x refl in
    let never : nat_lt x.time t ≡ false = grind (arith, nat_tests) in
    ap (λ b. if b then told_before x.told xs t else held) never

pub told_before_more : {A : Type 0} (held : A) (xs : List (Timed A)) (t : ℕ) → AreRising xs → told_before held xs (t + 1) ≡ unwrap_or (item_at xs t) (told_before held xs t)
told_before_more held [] t rising = refl
told_before_more held (x ∷ xs) t rising = elim (cases_order x.time t) [
  | inl same ↦
      let here : (x.time == t) ≡ true = grind (arith, nat_tests) in
      let next : nat_lt x.time (t + 1) ≡ true = grind (arith, nat_tests) in
      let rest : told_before x.told xs (t + 1) ≡ x.told =
      told_before-ahead x.told xs (t + 1) (λ n y at. let h : x.time < y.time = rising-first x xs rising n y at in omega arith) in
      ap (λ b. if b then told_before x.told xs (t + 1) else held) next ∙ rest
      ∙ sym (ap (λ b. unwrap_or (if b then Some x.told else item_at xs t) (told_before held (x ∷ xs) t)) here)
  | inr apart ↦ elim apart [
    | inl less ↦
        let other : (x.time == t) ≡ false = grind (arith, nat_tests) in
        let next : nat_lt x.time (t + 1) ≡ true = grind (arith, nat_tests) in
        let now : nat_lt x.time t ≡ true = grind (arith, nat_tests) in
        ap (λ b. if b then told_before x.told xs (t + 1) else held) next
        ∙ told_before_more x.told xs t (rising-rest x xs rising)
        ∙ sym (ap (λ b. unwrap_or (item_at xs t) (if b then told_before x.told xs t else held)) now)
        ∙ sym (ap (λ b. unwrap_or (if b then Some x.told else item_at xs t) (told_before held (x ∷ xs) t)) other)
    | inr more ↦
        let none : item_at (x ∷ xs) t ≡ None =
        item_at-none (x ∷ xs) t (λ n y at. let h : x.time ≤ y.time = rising-ahead (x ∷ xs) rising 0 n x y (omega arith) refl at in omega arith) in
        let next : nat_lt x.time (t + 1) ≡ false = grind (arith, nat_tests) in
        let now : nat_lt x.time t ≡ false = grind (arith, nat_tests) in
        ap (λ b. if b then told_before x.told xs (t + 1) else held) next
        ∙ sym (ap (λ b. if b then told_before x.told xs t else held) now)
        ∙ sym (ap (λ o. unwrap_or o (told_before held (x ∷ xs) t)) none)
  ]
]

-- after all of them
pub told_before-past : {A : Type 0} (held : A) (xs : List (Timed A)) (end t : ℕ) → EndBefore xs end → end ≤ t → told_before held xs t ≡ told_before held xs end
told_before-past held [] end t ends past = refl
told_before-past held (x ∷ xs) end t ends past =
    let h : x.time < end = ends 0 x refl in
    let now : nat_lt x.time t ≡ true = grind (arith, nat_tests) in
    let early : nat_lt x.time end ≡ true = grind (arith, nat_tests) in
    ap (λ b. if b then told_before x.told xs t else held) now
    ∙ told_before-past x.told xs end t (λ n y at. ends (suc n) y at) past
    ∙ sym (ap (λ b. if b then told_before x.told xs end else held) early)

-- ---- a walk along them

pub reached-first : {A : Type 0} (xs : List (Timed A)) → HasWalked xs 0 0
reached-first xs = record { passed = λ n x h at. absurd (omega arith); ahead = λ n x h at. omega arith }

-- nothing is left
pub reached-none : {A : Type 0} (xs : List (Timed A)) (place t : ℕ) → length xs ≤ place → HasWalked xs place t → (item_at xs t ≡ None) × HasWalked xs place (t + 1)
reached-none {A} xs place t past reached =
    let earlier : (n : ℕ) (x : Timed A) → slice_get xs n ≡ Some x → x.time < t =
    λ n x at. (let within : n < length xs = slice_get_within xs n x at in reached.passed n x (omega arith) at) in (
      item_at-none xs t (λ n x at. let h : x.time < t = earlier n x at in omega arith),
      record {
        passed = λ n x h at. let k : x.time < t = earlier n x at in omega arith;
        ahead = λ n x h at. let within : n < length xs = slice_get_within xs n x at in absurd (omega arith);
      },
    )

-- what is next comes later
pub reached-later : {A : Type 0} (xs : List (Timed A)) (place t : ℕ) (x : Timed A) → AreRising xs → slice_get xs place ≡ Some x → x.time ≢ t → HasWalked xs place t →
    (item_at xs t ≡ None) × HasWalked xs place (t + 1)
reached-later {A} xs place t x rising here other reached =
    let least : t ≤ x.time = reached.ahead place x (omega arith) here in
    let later : (n : ℕ) (y : Timed A) → place ≤ n → slice_get xs n ≡ Some y → t + 1 ≤ y.time =
    λ n y h at. (let k : x.time ≤ y.time = rising-ahead xs rising place n x y h here at in omega arith) in (
      item_at-none xs t (λ n y at. elim (cases_order n place) [
        | inl same ↦ let k : t + 1 ≤ y.time = later n y (omega arith) at in omega arith
        | inr apart ↦ elim apart [
          | inl less ↦ let k : y.time < t = reached.passed n y less at in omega arith
          | inr more ↦ let k : t + 1 ≤ y.time = later n y (omega arith) at in omega arith
        ]
      ]),
      record {
        passed = λ n y h at. let k : y.time < t = reached.passed n y h at in omega arith;
        ahead = later;
      },
    )

-- it comes now
pub reached-here : {A : Type 0} (xs : List (Timed A)) (place t : ℕ) (x : Timed A) → AreRising xs → slice_get xs place ≡ Some x → x.time ≡ t → HasWalked xs place t →
    (item_at xs t ≡ Some x.told) × HasWalked xs (place + 1) (t + 1)
reached-here xs place t x rising here now reached = (
  item_at-here xs place t x here now (λ n y h at. let k : y.time < t = reached.passed n y h at in omega arith),
  record {
    passed = λ n y h at. let k : y.time ≤ x.time = rising-ahead xs rising n place y x (omega arith) at here in omega arith;
    ahead = λ n y h at. let k : x.time < y.time = rising place n x y (omega arith) here at in omega arith;
  },
)
