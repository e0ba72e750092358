-- Elements of a list with their times, read one after another.
use Rattle.std.proofs.Common.{◌≡◌, ℕ, ◌+◌, ◌<◌, ◌≤◌, ◌⊎◌, List, [], ◌∷◌, ◌++◌, length, map, take, get_or, All, inl, inr, refl, sym, ap, subst, ◌∙◌, arith}
use Rattle.std.specs.List.{Contains}
use Rattle.std.proofs.lemmas.List.{take_more, get_or-map, length-map}
use Rattle.std.proofs.lemmas.List.Elements.{All-contains, All-push, All-weaker, Contains-push}
use Rattle.toml.specs.Data.{Data}
use Rattle.toml.specs.View.{view}
use Rattle.toml.specs.declared.value.Value.{Value}
use Rattle.kit_documents.specs.declared.field.KitField.{KitField}
use Rattle.document_values.specs.Demands.{AllMet, IsFirstUnmet}
use Rattle.document_values.specs.Values.{ArePaired}
use Rattle.document_values.proofs.ReadLists.{IsRead, IsRead-more, unmet-next, met-all, said-all}
use Rattle.kit_documents.specs.Lists.{element_demands, elements_demands, time_in, IsInTime}

-- the next time has to be at least this one: no element is before, or it is `apart` later than one of them
pub record IsLeast (apart : ℕ) (before : List Data) (least : ℕ) : Type 0 where
  pub above : All (λ e. time_in e + apart ≤ least) before
  pub reached : (least ≡ 0) ⊎ ((e : Data) × Contains before e × (time_in e + apart ≡ least))

pub IsLeast-more : (apart : ℕ) (before : List Data) (least : ℕ) (d : Data) → least ≤ time_in d → IsLeast apart before least → IsLeast apart (before ++ d ∷ []) (time_in d + apart)
IsLeast-more apart before least d late is = record {
  above = All-push (λ e. time_in e + apart ≤ time_in d + apart) before d (All-weaker (λ e. time_in e + apart ≤ least) (λ e. time_in e + apart ≤ time_in d + apart) (λ e h. omega (arith, h, late)) before is.above) (omega arith);
  reached = inr (d, Contains-push before d, refl);
}

-- a time from there on is in time
pub in_time : (end apart : ℕ) (before : List Data) (least : ℕ) (d : Data) → IsLeast apart before least → least ≤ time_in d → time_in d < end → IsInTime end apart before d
in_time end apart before least d is late within = record {
  within = within;
  behind = All-weaker (λ e. time_in e + apart ≤ least) (λ e. time_in e + apart ≤ time_in d) (λ e h. omega (arith, h, late)) before is.above;
}

-- an earlier one is not
pub not_in_time : (end apart : ℕ) (before : List Data) (least : ℕ) (d : Data) → IsLeast apart before least → (time_in d < least) ⊎ (end ≤ time_in d) → IsInTime end apart before d → ⊥
not_in_time end apart before least d is (inr late) in_time = let within = in_time.within in omega (arith, late, within)
not_in_time end apart before least d is (inl early) in_time = elim is.reached [
  | inl none ↦ omega (arith, early, none)
  | inr some ↦ let behind = All-contains (λ e. time_in e + apart ≤ time_in d) before some.0 in_time.behind some.1 in omega (arith, early, behind, some.2)
]

-- ---- a list

-- before this place of the values the elements are read, and the next time has to be this one at least
pub record IsReadInTime {B : Type 0} (Says : Data → B → Type 0) (end apart : ℕ) (values : List Value) (place least : ℕ) (read : List B) : Type 0 where
  pub elements : (told : ℕ → KitField) → IsRead (element_demands told Says end apart (map view values)) Says values place read
  pub least_is : IsLeast apart (take place (map view values)) least

-- the elements before the next place
next_before : (values : List Value) (place : ℕ) (value : Value) → place < length values → value ≡ get_or values place value → take (place + 1) (map view values) ≡ take place (map view values) ++ view value ∷ []
next_before values place value within is =
    take_more (map view values) place (view value) (omega (arith, within, length-map values view))
    ∙ ap (λ d. take place (map view values) ++ d ∷ []) (get_or-map view values place value (view value) within ∙ ap view (sym is))

pub in_time-more : {B : Type 0} (Says : Data → B → Type 0) (end apart : ℕ) (values : List Value) (place least : ℕ) (read : List B) (value : Value) (time : ℕ) (x : B)
    → place < length values → value ≡ get_or values place value → time ≡ time_in (view value) → least ≤ time → time < end → Says (view value) x
    → IsReadInTime Says end apart values place least read → IsReadInTime Says end apart values (place + 1) (time + apart) (read ++ x ∷ [])
in_time-more Says end apart values place least read value time x within is said late early says before =
    let here : least ≤ time_in (view value) = omega (arith, said, late) in
    let below : time_in (view value) < end = omega (arith, said, early) in
    record {
      elements = λ told.
          IsRead-more (element_demands told Says end apart (map view values)) Says values place read value x within is
          (((x, says), in_time end apart (take place (map view values)) least (view value) before.least_is here below), tt) says (before.elements told);
      least_is =
          subst (λ (ds : List Data). IsLeast apart ds (time + apart)) (sym (next_before values place value within is))
          (subst (λ (t : ℕ). IsLeast apart (take place (map view values) ++ view value ∷ []) (t + apart)) (sym said) (IsLeast-more apart (take place (map view values)) least (view value) here before.least_is));
    }

-- the next isn't in time
pub in_time-late : {B : Type 0} (Says : Data → B → Type 0) (end apart : ℕ) (values : List Value) (place least : ℕ) (read : List B) (value : Value) (told : ℕ → KitField)
    → place < length values → value ≡ get_or values place value → (time_in (view value) < least) ⊎ (end ≤ time_in (view value))
    → IsReadInTime Says end apart values place least read → IsFirstUnmet (told place) (elements_demands told Says end apart (map view values))
in_time-late Says end apart values place least read value told within is out before =
    unmet-next (element_demands told Says end apart (map view values)) Says values place read value (told place) within is
    (inl (refl, λ met. not_in_time end apart (take place (map view values)) least (view value) before.least_is out met.1)) (before.elements told)

-- it says nothing
pub in_time-unsaid : {B : Type 0} (Says : Data → B → Type 0) (end apart : ℕ) (values : List Value) (place least : ℕ) (read : List B) (value : Value) (told : ℕ → KitField)
    → place < length values → value ≡ get_or values place value → ((x : B) → Says (view value) x → ⊥)
    → IsReadInTime Says end apart values place least read → IsFirstUnmet (told place) (elements_demands told Says end apart (map view values))
in_time-unsaid Says end apart values place least read value told within is none before =
    unmet-next (element_demands told Says end apart (map view values)) Says values place read value (told place) within is
    (inl (refl, λ met. none met.0.0 met.0.1)) (before.elements told)

-- all are read
pub in_time-met : {B : Type 0} (Says : Data → B → Type 0) (end apart : ℕ) (values : List Value) (place least : ℕ) (read : List B) (told : ℕ → KitField)
    → length values ≤ place → IsReadInTime Says end apart values place least read → AllMet (elements_demands told Says end apart (map view values))
in_time-met Says end apart values place least read told past all = met-all (element_demands told Says end apart (map view values)) Says values place read past (all.elements told)

pub in_time-said : {B : Type 0} (Says : Data → B → Type 0) (end apart : ℕ) (values : List Value) (place least : ℕ) (read : List B) (told : ℕ → KitField)
    → length values ≤ place → IsReadInTime Says end apart values place least read → ArePaired Says (map view values) read
in_time-said Says end apart values place least read told past all = said-all (element_demands told Says end apart (map view values)) Says values place read past (all.elements told)
