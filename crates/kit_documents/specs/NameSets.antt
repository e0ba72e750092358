-- Sets of the names of cases.
use denote.Ref.{Bor}
use Rattle.std.specs.Prelude.{ℕ, ◌≡◌, List, Option, Some, None}
use Rattle.std.specs.BTreeSet.{BTreeSet, contains_by}
use Rattle.std.proofs.Props.{props}
use Rattle.std.specs.Cmp.Lexicographic.{slice_cmp}
use Rattle.std.specs.List.{list_any}
use Rattle.std.specs.Ordering.{nat_cmp}
use Rattle.toml.specs.Data.{Data, same_key}
use Rattle.kit_documents.specs.Cases.{case_name}

-- The set has exactly the names in these tables.
abbrev pub HasNames : BTreeSet (Bor (List ℕ)) → List Data → Type 0
HasNames names cases = (text : List ℕ) →
    contains_by (λ name. slice_cmp nat_cmp text name.now) names ≡ list_any (λ other. same_key text (case_name other)) cases

-- The names, if there is a set; no condition if there is none.
abbrev pub AreNames : Option (BTreeSet (Bor (List ℕ))) → List Data → Type 0
AreNames None cases = Unit {0}
AreNames (Some names) cases = HasNames names cases

pub AreNames-prop : (names : Option (BTreeSet (Bor (List ℕ)))) (cases : List Data) → IsProp (AreNames names cases)
AreNames-prop None cases = hlevel props
AreNames-prop (Some names) cases = hlevel props
