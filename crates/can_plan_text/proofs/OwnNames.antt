-- Names of messages, one after another.
use Rattle.std.proofs.Common.{◌≡◌, ℕ, ◌+◌, ◌<◌, Bool, true, false, List, take, Option, Some, None, refl, sym, ap, subst, ◌∙◌, inl, inr, arith}
use Rattle.std.specs.Prelude.{slice_get}
use Rattle.std.specs.List.{list_any}
use Rattle.std.proofs.lemmas.Bool.{cases_Bool, cases_lt}
use Rattle.std.proofs.lemmas.List.Folds.{Any-from_list_any, list_any_at}
use Rattle.std.proofs.lemmas.Option.{slice_get_within, slice_get-get_or, get_or_from_slice_get}
use Rattle.std.proofs.lemmas.Slice.Eq.{bytes_eq-Decides}
use Rattle.can_plan_text.specs.declared.name.Name.{Name}
use Rattle.can_bus.proofs.Members.{Stands}
use Rattle.can_plan_text.specs.declared.plan.Planned.{Planned}
use Rattle.can_plan_text.specs.Names.{HasName, name_bytes}
use Rattle.can_plan_text.specs.Order.{HaveOwnNames, is_one_name}
use Rattle.can_plan_text.proofs.InOrder.{stands-taken, taken-stands}

-- ---- one name

pub one-name-from : (m n : Option Name) (text : List ℕ) → HasName m text → HasName n text → is_one_name m n ≡ true
one-name-from None n text a b = absurd a
one-name-from (Some x) None text a b = absurd b
one-name-from (Some x) (Some y) text a b = (bytes_eq-Decides (name_bytes y) (name_bytes x)).1 (b ∙ sym a)

pub one-name-to : (m n : Option Name) → is_one_name m n ≡ true → (text : List ℕ) × HasName m text × HasName n text
one-name-to None n e = absurd (cc)
one-name-to (Some x) None e = absurd (cc)
one-name-to (Some x) (Some y) e = (name_bytes x, refl, (bytes_eq-Decides (name_bytes y) (name_bytes x)).0 e)

-- ---- among those before

module _ (test : Planned → Bool) (xs : List Planned) where
  some-stands : list_any test xs ≡ true → (a : Planned) × Stands xs a × (test a ≡ true)
  some-stands e =
      let any = Any-from_list_any test xs e in
      (any.1, (any.0, slice_get-get_or xs any.0 any.1 any.2 ∙ ap Some any.3), any.4)

  none-stands : (n : ℕ) (a : Planned) → list_any test xs ≡ false → slice_get xs n ≡ Some a → test a ≡ false
  none-stands n a none is = elim (cases_Bool (test a)) [
    | inl one ↦
        let some : list_any test xs ≡ true = list_any_at test xs n a (slice_get_within xs n a is) (ap test (get_or_from_slice_get xs n a a is) ∙ one) in
        absurd (cc)
    | inr none_here ↦ none_here
  ]

module _ (listed : List Planned) (place : ℕ) (p : Planned) (here : slice_get listed place ≡ Some p) where
  pub own-names-more : list_any (λ (a : Planned). is_one_name p.name a.name) (take place listed) ≡ false → HaveOwnNames place listed → HaveOwnNames (place + 1) listed
  own-names-more none own i j a b less within is_a is_b = elim (cases_lt j place) [
    | inl early ↦ own i j a b less early is_a is_b
    | inr late ↦
        let e : j ≡ place = omega (arith, late, within) in
        let last : Some b ≡ Some p = sym is_b ∙ ap (slice_get listed) e ∙ here in
        let same : b ≡ p = cc in
        let there = taken-stands listed place i a (omega (arith, less, e)) is_a in
        subst (λ (y : Planned). is_one_name y.name a.name ≡ false) (sym same) (none-stands (λ (x : Planned). is_one_name p.name x.name) (take place listed) there.0 a none there.1)
  ]

  pub named-again : list_any (λ (a : Planned). is_one_name p.name a.name) (take place listed) ≡ true →
      (n : ℕ) × (a : Planned) × (n < place) × (slice_get listed n ≡ Some a) × (is_one_name p.name a.name ≡ true)
  named-again e =
      let some = some-stands (λ (x : Planned). is_one_name p.name x.name) (take place listed) e in
      let there = stands-taken listed place some.0 some.1 in
      (there.0, some.0, there.1, there.2, some.2)
