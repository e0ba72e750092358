-- Strings of levels, read one after another, and forced bit times.
use Rattle.std.proofs.Common.{◌≡◌, ℕ, ◌+◌, ◌<◌, ◌≤◌, List, [], ◌∷◌, ◌++◌, length, map, take, get_or, refl, sym, ap, subst, ◌∙◌, inl, append_assoc, append-nil, arith}
use Rattle.std.proofs.lemmas.List.{length-take, take_all}
use Rattle.toml.specs.Data.{Data}
use Rattle.toml.specs.View.{view}
use Rattle.toml.specs.declared.value.Value.{Value}
use Rattle.can_frame.specs.declared.level.Level.{Level}
use Rattle.kit_documents.specs.declared.field.KitField.{KitField}
use Rattle.kit_documents.specs.declared.field.KitField.TheVariants.{Document}
use Rattle.document_values.specs.Demands.{AllMet, IsFirstUnmet}
use Rattle.document_values.specs.Values.{ArePaired}
use Rattle.document_values.proofs.ReadLists.{IsRead, IsRead-none, IsRead-more, unmet-next, met-all, said-all}
use Rattle.kit_documents.specs.LevelTexts.{AddsLevels}
use Rattle.kit_documents.proofs.ReadPieces.{adds-few, take-joined}
use Rattle.kit_documents.specs.Lists.{string_demands, strings_demands, SaysString, SayStrings, SayUpTo}

-- lists of levels, joined
pub joined : List (List Level) → List Level
joined [] = []
joined (first ∷ rest) = first ++ joined rest

joined-push : (parts : List (List Level)) (part : List Level) → joined (parts ++ part ∷ []) ≡ joined parts ++ part
unfolding joined
joined-push [] part = append-nil part
joined-push (first ∷ parts) part = ap (λ ls. first ++ ls) (joined-push parts part) ∙ sym (append_assoc first (joined parts) part)

strings-joined : (ds : List Data) (parts : List (List Level)) → ArePaired SaysString ds parts → SayStrings ds (joined parts)
unfolding joined
strings-joined [] [] pairs = refl
strings-joined [] (part ∷ parts) pairs = absurd pairs
strings-joined (d ∷ ds) [] pairs = absurd pairs
strings-joined (d ∷ ds) (part ∷ parts) pairs = (part, joined parts, pairs.0, strings-joined ds parts pairs.1, refl)

-- before this place of the values the strings are read, and these are the first of the levels that they said
pub record AreReadStrings (values : List Value) (most place : ℕ) (levels : List Level) : Type 0 where
  pub parts : List (List Level)
  pub read : (told : ℕ → KitField) → IsRead (string_demands told) SaysString values place parts
  pub all : levels ≡ take most (joined parts)
  pub few : length levels ≤ most

pub strings-none : (values : List Value) (most : ℕ) → AreReadStrings values most 0 []
unfolding joined
strings-none values most = record {
  parts = [];
  read = λ told. IsRead-none (string_demands told) SaysString values;
  all = sym (take_all most [] (omega arith));
  few = omega arith;
}

pub strings-more : (values : List Value) (most place : ℕ) (before after : List Level) (value : Value) → place < length values → value ≡ get_or values place value
    → AddsLevels (SaysString (view value)) most before after → AreReadStrings values most place before → AreReadStrings values most (place + 1) after
strings-more values most place before after value within is more are = record {
  parts = are.parts ++ more.read ∷ [];
  read = λ told. IsRead-more (string_demands told) SaysString values place are.parts value more.read within is ((more.read, more.said), tt) more.said (are.read told);
  all = more.all ∙ ap (λ ls. take most (ls ++ more.read)) are.all ∙ take-joined most (joined are.parts) more.read ∙ ap (take most) (sym (joined-push are.parts more.read));
  few = adds-few most before after more;
}

pub strings-other : (values : List Value) (most place : ℕ) (before : List Level) (value : Value) (told : ℕ → KitField) → place < length values → value ≡ get_or values place value
    → ((read : List Level) → SaysString (view value) read → ⊥) → AreReadStrings values most place before → IsFirstUnmet (told place) (strings_demands told (map view values))
strings-other values most place before value told within is none are =
    unmet-next (string_demands told) SaysString values place are.parts value (told place) within is (inl (refl, λ met. none met.0 met.1)) (are.read told)

pub strings-met : (values : List Value) (most place : ℕ) (levels : List Level) (told : ℕ → KitField) → length values ≤ place → AreReadStrings values most place levels → AllMet (strings_demands told (map view values))
strings-met values most place levels told past are = met-all (string_demands told) SaysString values place are.parts past (are.read told)

pub strings-said : (values : List Value) (most place : ℕ) (levels : List Level) → length values ≤ place → AreReadStrings values most place levels → SayUpTo most (map view values) levels
strings-said values most place levels past are =
    let pairs = said-all (string_demands (λ place. Document)) SaysString values place are.parts past (are.read (λ place. Document)) in
    (joined are.parts, strings-joined (map view values) are.parts pairs, are.all)

-- if there was space for more, these are all
pub all-said : (ds : List Data) (most : ℕ) (levels : List Level) → length levels < most → SayUpTo most ds levels → SayStrings ds levels
all-said ds most levels room said =
    let few : length said.0 ≤ most = omega (arith, room, ap length said.2, length-take most said.0) in
    let same : said.0 ≡ levels = sym (said.2 ∙ take_all most said.0 few) in
    subst (λ (ls : List Level). SayStrings ds ls) same said.1

-- ---- forced bit times
