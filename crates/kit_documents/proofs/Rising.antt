-- Elements in time, as they are read, have times that rise and end.
use Rattle.std.specs.Prelude.{slice_get, IfSome}
use Rattle.std.specs.List.{Contains}
use Rattle.std.proofs.Common.{◌≡◌, ℕ, zero, suc, ◌+◌, ◌-◌, ◌^◌, ◌<◌, ◌≤◌, List, [], ◌∷◌, Option, Some, None, Vec, Global, length, take, refl, ap, subst, ◌∙◌, arith}
use Rattle.std.proofs.lemmas.List.{get_or-take, length-take-le}
use Rattle.std.proofs.lemmas.List.Elements.{All-contains}
use Rattle.std.proofs.lemmas.Option.{get_or_from_slice_get, slice_get_within}
use Rattle.toml.specs.Data.{Data}
use Rattle.can_terms.specs.declared.timed.Timed.{Timed}
use Rattle.can_terms.specs.Cases.{AreRising, EndBefore}
use Rattle.kit_documents.specs.declared.field.KitField.{KitField}
use Rattle.document_values.specs.Demands.{AllMet, demands_on_each}
use Rattle.document_values.specs.Values.{elements, elements_in, ArePaired}
use Rattle.kit_documents.specs.Lists.{element_demands, elements_demands, time_in, IsInTime}
use Rattle.kit_documents.specs.Elements.{time_end, SaysIfThere}

-- an element is among those before a later place
among-before : {X : Type 0} (xs : List X) (m n : ℕ) (x : X) → m < n → n ≤ length xs → slice_get xs m ≡ Some x → Contains (take n xs) x
among-before xs m n x before within at =
    (m, omega (arith, before, length-take-le n xs within), get_or-take n xs m x before ∙ get_or_from_slice_get xs m x x at)

module _ {A : Type 0} (Says : Data → Timed A → Type 0) (timely : (d : Data) (x : Timed A) → Says d x → time_in d ≡ x.time) (named : ℕ → KitField) (end : ℕ) where
  -- an element is that of a value in time
  element_at : (all : List Data) (from : ℕ) (ds : List Data) (xs : List (Timed A)) → AllMet (demands_on_each (element_demands named Says end 1 all) from ds) → ArePaired Says ds xs
      → (n place : ℕ) → place ≡ from + n → (x : Timed A) → slice_get xs n ≡ Some x → (d : Data) × (slice_get ds n ≡ Some d) × (time_in d ≡ x.time) × IsInTime end 1 (take place all) d
  element_at all from [] [] met pairs n place is x at = absurd (cc)
  element_at all from [] (y ∷ xs) met pairs n place is x at = absurd pairs
  element_at all from (d ∷ ds) [] met pairs n place is x at = absurd pairs
  element_at all from (d ∷ ds) (y ∷ xs) met pairs zero place is x at =
      let same : y ≡ x = cc in
      let here : from ≡ place = omega (arith, is) in
      (d, refl, timely d y pairs.0 ∙ ap (λ (z : Timed A). z.time) same, subst (λ (k : ℕ). IsInTime end 1 (take k all) d) here met.0.1)
  element_at all from (d ∷ ds) (y ∷ xs) met pairs (suc n) place is x at = element_at all (from + 1) ds xs met.1 pairs.1 n place (omega (arith, is)) x at

  are_rising : (all : List Data) (xs : List (Timed A)) → AllMet (elements_demands named Says end 1 all) → ArePaired Says all xs → AreRising xs
  are_rising all xs met pairs = λ m n x y before at to.
      let first = element_at all 0 all xs met pairs m m (omega arith) x at in
      let second = element_at all 0 all xs met pairs n n (omega arith) y to in
      let within : n < length all = slice_get_within all n second.0 second.1 in
      let behind = second.3.behind in
      let step : time_in first.0 + 1 ≤ time_in second.0 = All-contains (λ e. time_in e + 1 ≤ time_in second.0) (take n all) first.0 behind (among-before all m n first.0 before (omega (arith, within)) first.1) in
      omega (arith, step, first.2, second.2)

  end_before : (all : List Data) (xs : List (Timed A)) (limit : ℕ) → end ≤ limit → AllMet (elements_demands named Says end 1 all) → ArePaired Says all xs → EndBefore xs limit
  end_before all xs limit low met pairs = λ n x at.
      let element = element_at all 0 all xs met pairs n n (omega arith) x at in
      let within = element.3.within in
      omega (arith, within, low, element.2)

-- a list of a transcript has rising times of 32 bits
module _ {A : Type 0} (Says : Data → Timed A → Type 0) (timely : (d : Data) (x : Timed A) → Says d x → time_in d ≡ x.time) (named : ℕ → KitField) where
  pub list-rising : (field : Option Data) (read : Option (Vec (Timed A) Global)) → AllMet (elements_demands named Says time_end 1 (elements_in field))
      → SaysIfThere (λ list xs. ArePaired Says (elements list) xs.items) field read → IfSome read (λ xs. AreRising xs.items)
  list-rising None None met says = tt
  list-rising None (Some xs) met says = absurd says
  list-rising (Some d) None met says = absurd says
  list-rising (Some d) (Some xs) met says = are_rising Says timely named time_end (elements d) xs.items met says

  pub list-end : (field : Option Data) (read : Option (Vec (Timed A) Global)) → AllMet (elements_demands named Says time_end 1 (elements_in field))
      → SaysIfThere (λ list xs. ArePaired Says (elements list) xs.items) field read → IfSome read (λ xs. EndBefore xs.items (2 ^ 32 - 1))
  list-end None None met says = tt
  list-end None (Some xs) met says = absurd says
  list-end (Some d) None met says = absurd says
  list-end (Some d) (Some xs) met says = end_before Says timely named time_end (elements d) xs.items (2 ^ 32 - 1) (omega arith) met says
