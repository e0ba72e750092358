-- The numbers of the cases without a transcript, by name.
use denote.Ref.{Bor}
use Rattle.std.specs.Prelude.{ℕ, ◌≡◌, cond, is_some, List, Option, Some, None}
use Rattle.std.specs.BTreeMap.{BTreeMap, get_by}
use Rattle.std.specs.Cmp.Lexicographic.{slice_cmp}
use Rattle.std.specs.Option.{unwrap_or}
use Rattle.std.specs.Ordering.{nat_cmp}
use Rattle.std.specs.Str.{bytes_eq}
use Rattle.std.proofs.Props.{props}
use Rattle.toml.specs.Data.{Data}
use Rattle.kit_documents.specs.Cases.{case_name}
use Rattle.kit_documents.specs.Transcripts.{case_of, place_where}

-- The number of the first of these cases with the name, if none of these transcripts belongs to it.
abbrev pub untold_place : List Data → List Data → List ℕ → Option ℕ
untold_place cases earlier name = cond (is_some (place_where case_of name earlier)) None (place_where case_name name cases)

-- The number at a name.
abbrev pub place_at : BTreeMap (Bor (List ℕ)) ℕ → List ℕ → Option ℕ
place_at places name = get_by (λ key. slice_cmp nat_cmp name key.now) places

-- Adds this number at a name that has none.
abbrev pub with_place : (List ℕ → Option ℕ) → List ℕ → ℕ → List ℕ → Option ℕ
with_place places name place text = cond (bytes_eq name text) (Some (unwrap_or (places name) place)) (places text)

-- The map has the numbers of exactly the cases to which none of these transcripts belongs.
abbrev pub HasUntold : BTreeMap (Bor (List ℕ)) ℕ → List Data → List Data → Type 0
HasUntold places cases earlier = (name : List ℕ) → place_at places name ≡ untold_place cases earlier name

-- Their numbers, if there is a map; no condition if there is none.
abbrev pub AreUntold : Option (BTreeMap (Bor (List ℕ)) ℕ) → List Data → List Data → Type 0
AreUntold None cases earlier = Unit {0}
AreUntold (Some places) cases earlier = HasUntold places cases earlier

pub AreUntold-prop : (places : Option (BTreeMap (Bor (List ℕ)) ℕ)) (cases earlier : List Data) → IsProp (AreUntold places cases earlier)
AreUntold-prop None cases earlier = hlevel props
AreUntold-prop (Some places) cases earlier = hlevel props
