-- Lists that a call takes: what is known of the inputs before a place.
use Rattle.std.specs.List.{slice_get}
use Rattle.std.proofs.Common.{◌≡◌, ℕ, zero, suc, ◌+◌, ◌<◌, ◌≤◌, Bool, true, false, List, Some, length, get_or, take, sym, ◌∙◌, ap, subst, inl, inr, arith, length-take}
use Rattle.std.proofs.lemmas.Bool.{cases_order}
use Rattle.std.proofs.lemmas.List.{get_or-take}
use Rattle.std.proofs.lemmas.Option.{slice_get-get_or, get_or_from_slice_get, slice_get_within}
use Rattle.can_bus.specs.declared.fault.BusFault.{BusFault}
use Rattle.can_bus.specs.declared.fault.BusFault.TheVariants.{NoPort, TooManyPorts, NotRising, NoSuchPort}
use Rattle.can_terms.specs.Sound.{FollowsLast, AreSound}
use Rattle.can_bus.specs.Inputs.{IsWrong, IsFirstWrong}

-- an element of a front
get-take : {X : Type 0} (n k : ℕ) (xs : List X) (x : X) → slice_get (take n xs) k ≡ Some x → (k < n) × (slice_get xs k ≡ Some x)
get-take n k xs x e =
    let inside : k < length (take n xs) = slice_get_within (take n xs) k x e in
    let size : length (take n xs) ≤ n = omega (arith, length-take n xs) in
    let whole : length (take n xs) ≤ length xs = omega (arith, length-take n xs) in
    let less : k < n = omega arith in
    let here : get_or xs k x ≡ x = sym (get_or-take n xs k x less) ∙ get_or_from_slice_get (take n xs) k x x e in
    (less, slice_get-get_or xs k x (omega arith) ∙ ap Some here)

module _ {A : Type 0} (items : List A) (Holds : ℕ → A → Type 0) where
  -- what holds of each item before this place, and its own place
  abbrev pub HoldsBefore : ℕ → Type 0
  HoldsBefore place = (n : ℕ) (item : A) → n < place → slice_get items n ≡ Some item → Holds n item

  -- one item more
  pub holds_more : (place : ℕ) (item : A) → slice_get items place ≡ Some item → HoldsBefore place → Holds place item → HoldsBefore (place + 1)
  holds_more place item here each this n other less there =
      elim (cases_order n place) [
        | inl same ↦
            let at : slice_get items place ≡ Some other = ap (slice_get items) (sym same) ∙ there in
            let e : item ≡ other = sym (get_or_from_slice_get items place item item here) ∙ get_or_from_slice_get items place other item at in
            subst (λ k. Holds k other) (sym same) (subst (λ x. Holds place x) e this)
        | inr apart ↦ elim apart [
          | inl below ↦ each n other below there
          | inr more ↦ absurd (omega arith)
        ]
      ]

module _ {A : Type 0} (follows : A → A → Bool) where
  -- if what may follow an item may follow all before it, each may follow all before it
  pub follows-each : ((a b c : A) → follows a b ≡ true → follows b c ≡ true → follows a c ≡ true) → (items : List A) →
      ((place : ℕ) (item : A) → slice_get items place ≡ Some item → FollowsLast follows items place item) →
      (m n : ℕ) (a b : A) → m < n → slice_get items m ≡ Some a → slice_get items n ≡ Some b → follows b a ≡ true
  follows-each behind items each m zero a b h at to = absurd (omega arith)
  follows-each behind items each m (suc k) a b h at to =
      let inside : suc k < length items = slice_get_within items (suc k) b to in
      let there : slice_get items k ≡ Some (get_or items k b) = slice_get-get_or items k b (omega arith) in
      let up : follows b (get_or items k b) ≡ true = each (suc k) b to k (get_or items k b) (let e : k + 1 ≡ suc k = omega arith in e) there in
      elim (cases_order m k) [
        | inl same ↦ subst (λ x. follows b x ≡ true) (get_or_from_slice_get items k a b (ap (slice_get items) (sym same) ∙ at)) up
        | inr apart ↦ elim apart [
          | inl less ↦ behind b (get_or items k b) a up (follows-each behind items each m k a (get_or items k b) less at there)
          | inr more ↦ absurd (omega arith)
        ]
      ]

module _ {A : Type 0} (follows : A → A → Bool) (names : ℕ → A → Bool) (ports : ℕ) (items : List A) where
  -- the items before this place are sound
  abbrev pub AreSoundBefore : ℕ → Type 0
  AreSoundBefore place = HoldsBefore items (λ n item. FollowsLast follows items n item × (names ports item ≡ true)) place

  sound_front : (place : ℕ) → AreSoundBefore place → AreSound follows names ports (take place items)
  sound_front place each n item e =
      let at = get-take place n items item e in
      let known = each n item at.0 at.1 in
      (λ m last next there. known.0 m last next (get-take place m items last there).1, known.1)

  -- the item at this place is the first that is wrong
  pub first_wrong : (place : ℕ) (item : A) (fault : BusFault) → slice_get items place ≡ Some item → AreSoundBefore place →
      IsWrong follows names ports items place item fault → IsFirstWrong follows names ports items fault
  first_wrong place item fault there each wrong = record { place = place; item = item; there = there; before = sound_front place each; wrong = wrong }

  -- items of which one is wrong are not sound
  pub wrong_unsound : (fault : BusFault) → IsFirstWrong follows names ports items fault → AreSound follows names ports items → ⊥
  wrong_unsound NotRising first sound = first.wrong (sound first.place first.item first.there).0
  wrong_unsound NoSuchPort first sound =
      let named : names ports first.item ≡ true = (sound first.place first.item first.there).1 in
      let none : names ports first.item ≡ false = first.wrong.1 in
      let no : true ≡ false = sym named ∙ none in cc
  wrong_unsound NoPort first sound = first.wrong
  wrong_unsound TooManyPorts first sound = first.wrong
