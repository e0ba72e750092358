-- Reading the elements of an array one after another.
use Rattle.std.proofs.Common.{◌≡◌, ℕ, suc, ◌+◌, ◌<◌, ◌≤◌, List, [], ◌∷◌, ◌++◌, length, get_or, drop, map, refl, ap, sym, ◌∙◌, append_assoc, append-nil}
use Rattle.std.proofs.lemmas.List.{drop_more, drop_all}
use Rattle.toml.specs.Data.{Data}
use Rattle.toml.specs.View.{view}
use Rattle.toml.specs.declared.value.Value.{Value}
use Rattle.document_values.specs.Demands.{Demands, demands_on_each, AllMet, IsFirstUnmet}
use Rattle.document_values.specs.Values.{ArePaired}
use Rattle.document_values.proofs.DemandLemmas.{met-followed, unmet-first, unmet-later}

-- Before this place of the values all demands are met, and this was read. What holds of those from there on holds
-- of all.
pub record IsRead {F B : Type 0} (one : ℕ → Data → Demands F) (Says : Data → B → Type 0) (values : List Value) (place : ℕ) (read : List B) : Type 0 where
  pub met : AllMet (demands_on_each one place (map view (drop place values))) → AllMet (demands_on_each one 0 (map view values))
  pub unmet : (wrong : F) → IsFirstUnmet wrong (demands_on_each one place (map view (drop place values))) → IsFirstUnmet wrong (demands_on_each one 0 (map view values))
  pub said : (more : List B) → ArePaired Says (map view (drop place values)) more → ArePaired Says (map view values) (read ++ more)

pub IsRead-none : {F B : Type 0} (one : ℕ → Data → Demands F) (Says : Data → B → Type 0) (values : List Value) → IsRead one Says values 0 []
IsRead-none one Says values = record { met = λ m. m; unmet = λ wrong u. u; said = λ more p. p }

-- the value at an index, and those after it
values_from : (values : List Value) (place : ℕ) (value : Value) → place < length values → value ≡ get_or values place value → drop place values ≡ value ∷ drop (place + 1) values
values_from values place value within is = drop_more values place value within ∙ ap (λ v. v ∷ drop (place + 1) values) (sym is)

-- one more is read
pub IsRead-more : {F B : Type 0} (one : ℕ → Data → Demands F) (Says : Data → B → Type 0) (values : List Value) (place : ℕ) (read : List B) (value : Value) (y : B)
    → place < length values → value ≡ get_or values place value → AllMet (one place (view value)) → Says (view value) y
    → IsRead one Says values place read → IsRead one Says values (place + 1) (read ++ y ∷ [])
IsRead-more one Says values place read value y within is here says before =
    let from = values_from values place value within is in
    record {
      met = λ later. before.met (rw from (met-followed (one place (view value)) _ here later));
      unmet = λ wrong later. before.unmet wrong (rw from (unmet-later wrong (one place (view value)) _ here later));
      said = λ more later. rw append_assoc (before.said (y ∷ more) (rw from (says, later)));
    }

-- the next is the first that isn't as it has to be
pub unmet-next : {F B : Type 0} (one : ℕ → Data → Demands F) (Says : Data → B → Type 0) (values : List Value) (place : ℕ) (read : List B) (value : Value) (wrong : F)
    → place < length values → value ≡ get_or values place value → IsFirstUnmet wrong (one place (view value))
    → IsRead one Says values place read → IsFirstUnmet wrong (demands_on_each one 0 (map view values))
unmet-next one Says values place read value wrong within is here before =
    before.unmet wrong (rw (values_from values place value within is) (unmet-first wrong (one place (view value)) _ here))

-- all are read
pub met-all : {F B : Type 0} (one : ℕ → Data → Demands F) (Says : Data → B → Type 0) (values : List Value) (place : ℕ) (read : List B)
    → length values ≤ place → IsRead one Says values place read → AllMet (demands_on_each one 0 (map view values))
met-all one Says values place read past all = all.met (rw (drop_all place values past) tt)

pub said-all : {F B : Type 0} (one : ℕ → Data → Demands F) (Says : Data → B → Type 0) (values : List Value) (place : ℕ) (read : List B)
    → length values ≤ place → IsRead one Says values place read → ArePaired Says (map view values) read
said-all one Says values place read past all = rw append-nil at (all.said [] (rw (drop_all place values past) tt))

-- lists that are read pair by pair are equally long
pub length-paired : {A B : Type 0} (R : A → B → Type 0) (xs : List A) (ys : List B) → ArePaired R xs ys → length xs ≡ length ys
length-paired R [] [] p = refl
length-paired R [] (y ∷ ys) p = absurd p
length-paired R (x ∷ xs) [] p = absurd p
length-paired R (x ∷ xs) (y ∷ ys) p = ap suc (length-paired R xs ys p.1)
