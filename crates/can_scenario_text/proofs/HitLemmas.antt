-- The injected bit errors of a document: how its lists are read, and that they are in order one after
-- another.
use Rattle.std.specs.List.{slice_get, AllByRecursion}
use Rattle.std.proofs.Common.{◌≡◌, ℕ, zero, suc, ◌+◌, true, List, [], ◌∷◌, ◌++◌, length, get_or, drop, map, Option, Some, None, IfSome, Err, IsErrOf, ◌<◌, refl, sym, ap, ◌∙◌, subst, inl, inr, ◌⊎◌, pos, append_assoc, append-nil, arith}
use Rattle.std.proofs.lemmas.List.{drop_more}
use Rattle.toml.specs.Data.{Data, string, integer, float, boolean, datetime, array, table, Items, no_items, item, as_array}
use Rattle.toml.specs.View.{view, items_view}
use Rattle.toml.specs.declared.value.Value.{Value}
use Rattle.can_terms.specs.declared.hit.Hit.{Hit}
use Rattle.can_terms.specs.declared.hit.Hit.TheVariants as hit
use Rattle.can_terms.specs.Hits.{is_above, hit_names_port, AreTaken, IsAboveLast}
use Rattle.can_stream.specs.declared.fault.TraceFault.{TraceFault}
use Rattle.can_stream.specs.declared.fault.TraceFault.TheVariants.{ScenarioField}
use Rattle.can_stream.specs.declared.field.Field.{Field}
use Rattle.can_stream.specs.declared.field.Field.TheVariants as field
use Rattle.can_stream.specs.declared.field.HitList.{HitList}
use Rattle.can_stream.specs.declared.field.HitList.TheVariants.{At, In, View}
use Rattle.document_values.specs.Demands.{AllMet, IsFirstUnmet}
use Rattle.document_values.specs.Values.{ArePaired, IsArray, IsOptional, elements_in, named}
use Rattle.can_scenario_text.specs.Scenarios.{AddsHits, IsSoundHit, SaysHit, SaysHits, hit_demands, hit_in, list_demands, list_name}
use Rattle.document_values.proofs.DemandLemmas.{elements-view}

-- ---- the elements of a list

-- a list is read as far as the rest of its elements, and the last of them said the disturbance before
pub record IsReading (list : HitList) (ports : ℕ) (ds : List Data) (start : List Hit) (place : ℕ) (before : Option Hit) (rest : List Data) (hits : List Hit) : Type 0 where
  pub said : (more : List Hit) → ArePaired (SaysHit list) rest more → AddsHits list ds start (hits ++ more)
  pub met : AllMet (hit_demands list ports place before rest) → AllMet (hit_demands list ports 0 None ds)
  pub unmet : (wrong : Field) → IsFirstUnmet wrong (hit_demands list ports place before rest) → IsFirstUnmet wrong (hit_demands list ports 0 None ds)

pub IsReading-more : (list : HitList) (ports : ℕ) (ds : List Data) (start : List Hit) (place : ℕ) (before : Option Hit) (d : Data) (rest : List Data) (hits : List Hit) (next : Hit) →
    IsReading list ports ds start place before (d ∷ rest) hits → hit_in list d ≡ Some next → IsSoundHit ports before (Some next) →
    IsReading list ports ds start (place + 1) (Some next) rest (hits ++ next ∷ [])
IsReading-more list ports ds start place before d rest hits next reading says sound =
    let here : IsSoundHit ports before (hit_in list d) = subst (λ (o : Option Hit). IsSoundHit ports before o) (sym says) sound in
    record {
      said = λ more said. rw append_assoc (reading.said (next ∷ more) (says, said));
      met = λ met. reading.met (here, subst (λ (o : Option Hit). AllMet (hit_demands list ports (place + 1) o rest)) (sym says) met);
      unmet = λ wrong unmet. reading.unmet wrong (inr (here, subst (λ (o : Option Hit). IsFirstUnmet wrong (hit_demands list ports (place + 1) o rest)) (sym says) unmet));
    }

-- the rest of some values begins with the next
pub next_value : (values : List Value) (place : ℕ) (value : Value) → place < length values → value ≡ get_or values place value → map view (drop place values) ≡ view value ∷ map view (drop (place + 1) values)
next_value values place value within is = ap (map view) (drop_more values place value within) ∙ ap (λ v. view v ∷ map view (drop (place + 1) values)) (sym is)

-- the next element is the first that isn't sound
pub IsReading-unmet : (list : HitList) (ports : ℕ) (ds : List Data) (start : List Hit) (place : ℕ) (before : Option Hit) (d : Data) (rest : List Data) (hits : List Hit) (wrong : Field) →
    IsReading list ports ds start place before (d ∷ rest) hits → ¬ IsSoundHit ports before (hit_in list d) → IsErrOf {T = Unit {0}} (Err (ScenarioField (field.Hit list place))) (ScenarioField wrong) →
    IsFirstUnmet wrong (hit_demands list ports 0 None ds)
IsReading-unmet list ports ds start place before d rest hits wrong reading unsound is =
    let told : field.Hit list place ≡ wrong = cc is in
    reading.unmet wrong (inl (told, unsound))

-- the list is read to its end
pub IsReading-said : (list : HitList) (ports : ℕ) (ds : List Data) (start : List Hit) (place : ℕ) (before : Option Hit) (hits : List Hit) →
    IsReading list ports ds start place before [] hits → AddsHits list ds start hits
IsReading-said list ports ds start place before hits reading = subst (AddsHits list ds start) (append-nil hits) (reading.said [] tt)

-- ---- a list of a document

-- the same error in place of another type's value
pub err_instead : {A B : Type 0} (fault other : TraceFault) → IsErrOf {T = A} (Err fault) other → IsErrOf {T = B} (Err fault) other
err_instead fault other is = let same : fault ≡ other = cc is in ap Err same

pub array_from : (d : Data) (items : Items) → as_array d ≡ Some items → d ≡ array items
array_from (string s) items e = cc
array_from (integer z) items e = cc
array_from (float x) items e = cc
array_from (boolean b) items e = cc
array_from (datetime t) items e = cc
array_from (array inner) items e = cc
array_from (table fields) items e = cc

-- the field is an array, and its elements are these values
pub is_array : (list : HitList) (document d : Data) (values : List Value) → named (list_name list) document ≡ Some d → as_array d ≡ Some (items_view values) →
    IsOptional IsArray (named (list_name list) document) × (elements_in (named (list_name list) document) ≡ map view values)
is_array list document d values some is =
    let same = array_from d (items_view values) is in
    rw (some, same) ((items_view values, refl), elements-view values)

-- ---- the order

-- each names a port, if it names any, and is above the one before it
abbrev pub AreSound : ℕ → Option Hit → List Hit → Type 0
AreSound ports before [] = Unit {0}
AreSound ports before (next ∷ hits) = IsSoundHit ports before (Some next) × AreSound ports (Some next) hits

-- what meets the demands on a list is sound
met_sound : (list : HitList) (ports place : ℕ) (before : Option Hit) (ds : List Data) (hits : List Hit) → ArePaired (SaysHit list) ds hits → AllMet (hit_demands list ports place before ds) → AreSound ports before hits
met_sound list ports place before [] [] said met = tt
met_sound list ports place before [] (next ∷ hits) said met = absurd said
met_sound list ports place before (d ∷ ds) [] said met = tt
met_sound list ports place before (d ∷ ds) (next ∷ hits) said met = (
  subst (λ (o : Option Hit). IsSoundHit ports before o) said.0 met.0,
  met_sound list ports (place + 1) (Some next) ds hits said.1 (subst (λ (o : Option Hit). AllMet (hit_demands list ports (place + 1) o ds)) said.0 met.1),
)

-- in a longer list, too, a hit is above the one before it
above_more : (ports : ℕ) (first : Hit) (hits : List Hit) (place : ℕ) (next : Hit) → AreSound ports (Some first) hits → slice_get hits place ≡ Some next → IsAboveLast hits place next → IsAboveLast (first ∷ hits) (suc place) next
above_more ports first [] place next sound there above n last after at = absurd (let no : None ≡ Some next = there in cc)
above_more ports first (second ∷ hits) zero next sound there above zero last after at =
    let second_is : second ≡ next = cc in
    let first_is : first ≡ last = cc in
    subst (λ (h : Hit). is_above h last ≡ true) second_is (subst (λ (h : Hit). is_above second h ≡ true) first_is sound.0.1)
above_more ports first (second ∷ hits) (suc place) next sound there above zero last after at = absurd (omega arith)
above_more ports first (second ∷ hits) place next sound there above (suc n) last after at = above n last (omega arith) at

-- sound hits are taken
sound_taken : (ports : ℕ) (before : Option Hit) (hits : List Hit) → AreSound ports before hits → AreTaken ports hits
sound_taken ports before [] sound place next there = absurd (let no : None ≡ Some next = there in cc)
sound_taken ports before (first ∷ hits) sound zero next there =
    let same : first ≡ next = cc in
    (λ n last after at. absurd (omega arith), subst (λ (h : Hit). hit_names_port ports h ≡ true) same sound.0.0)
sound_taken ports before (first ∷ hits) sound (suc place) next there =
    let known = sound_taken ports (Some first) hits sound.1 place next there in
    (above_more ports first hits place next sound.1 there known.0, known.1)

-- hits of one kind, and then hits of which each is above all of that kind
sound_append : (ports : ℕ) (Low High : Hit → Type 0) → ((low high : Hit) → Low low → High high → is_above high low ≡ true) →
    (before : Option Hit) (lows highs : List Hit) → IfSome before Low → AllByRecursion Low lows → AllByRecursion High highs →
    AreSound ports before lows → AreSound ports None highs → AreSound ports before (lows ++ highs)
sound_append ports Low High apart before [] [] first low high sound more = tt
sound_append ports Low High apart None [] (next ∷ highs) first low high sound more = more
sound_append ports Low High apart (Some last) [] (next ∷ highs) first low high sound more = ((more.0.0, apart last next first high.0), more.1)
sound_append ports Low High apart before (next ∷ lows) highs first low high sound more =
    (sound.0, sound_append ports Low High apart (Some next) lows highs low.0 low.1 high sound.1 more)

-- the kind of the elements of such a list
abbrev pub IsOf : HitList → Hit → Type 0
IsOf At (hit.At time) = Unit {0}
IsOf At (hit.In attempt offset) = ⊥
IsOf At (hit.View time node) = ⊥
IsOf In (hit.At time) = ⊥
IsOf In (hit.In attempt offset) = Unit {0}
IsOf In (hit.View time node) = ⊥
IsOf View (hit.At time) = ⊥
IsOf View (hit.In attempt offset) = ⊥
IsOf View (hit.View time node) = Unit {0}

IsOf-maybe : (list : HitList) (d : Data) → IfSome (hit_in list d) (IsOf list)
IsOf-maybe At (integer (pos time)) = tt
IsOf-maybe In (array (item (integer (pos attempt)) (item (integer (pos offset)) no_items))) = tt
IsOf-maybe View (array (item (integer (pos time)) (item (integer (pos node)) no_items))) = tt
IsOf-maybe _ _ = tt

all_of : (list : HitList) (ds : List Data) (hits : List Hit) → ArePaired (SaysHit list) ds hits → AllByRecursion (IsOf list) hits
all_of list [] [] said = tt
all_of list [] (next ∷ hits) said = absurd said
all_of list (d ∷ ds) [] said = tt
all_of list (d ∷ ds) (next ∷ hits) said = (subst (λ (o : Option Hit). IfSome o (IsOf list)) said.0 (IsOf-maybe list d), all_of list ds hits said.1)

at_below : (low high : Hit) → IsOf At low → IsOf In high ⊎ IsOf View high → is_above high low ≡ true
at_below (hit.At time) (hit.At other) low (inl within) = absurd within
at_below (hit.At time) (hit.At other) low (inr view) = absurd view
at_below (hit.At time) (hit.In attempt offset) low high = refl
at_below (hit.At time) (hit.View other node) low high = refl
at_below (hit.In attempt offset) h low high = absurd low
at_below (hit.View time node) h low high = absurd low

in_below : (low high : Hit) → IsOf In low → IsOf View high → is_above high low ≡ true
in_below (hit.In attempt offset) (hit.At time) low high = absurd high
in_below (hit.In attempt offset) (hit.In other place) low high = absurd high
in_below (hit.In attempt offset) (hit.View time node) low high = refl
in_below (hit.At time) h low high = absurd low
in_below (hit.View time node) h low high = absurd low

-- the three lists one after another describe all hits of the document
pub SaysHits-three : (document : Data) (start first second third : List Hit) → start ≡ [] →
    AddsHits At (elements_in (named (list_name At) document)) start first → AddsHits In (elements_in (named (list_name In) document)) first second → AddsHits View (elements_in (named (list_name View) document)) second third →
    SaysHits document third
SaysHits-three document start first second third none at within view = record {
  at = at.added;
  within = within.added;
  view = view.added;
  at_said = at.said;
  within_said = within.said;
  view_said = view.said;
  all = view.all ∙ ap (λ hits. hits ++ view.added) (within.all ∙ ap (λ hits. hits ++ within.added) (at.all ∙ ap (λ hits. hits ++ at.added) none)) ∙ append_assoc at.added within.added view.added;
}

all_later : (hits more : List Hit) → AllByRecursion (IsOf In) hits → AllByRecursion (IsOf View) more → AllByRecursion (λ h. IsOf In h ⊎ IsOf View h) (hits ++ more)
all_later [] [] within view = tt
all_later [] (next ∷ more) within view = (inr view.0, all_later [] more within view.1)
all_later (next ∷ hits) more within view = (inl within.0, all_later hits more within.1 view)

-- what a document says that meets the demands on its lists is taken
pub taken_said : (ports : ℕ) (document : Data) (hits : List Hit) → SaysHits document hits → AllMet (list_demands At ports document) → AllMet (list_demands In ports document) → AllMet (list_demands View ports document) → AreTaken ports hits
taken_said ports document hits says at within view =
    let are = λ (list : HitList) (ds : List Data) (some : List Hit) (said : ArePaired (SaysHit list) ds some) (met : AllMet (hit_demands list ports 0 None ds)). met_sound list ports 0 None ds some said met in
    let at_all = all_of At _ says.at says.at_said in
    let within_all = all_of In _ says.within says.within_said in
    let view_all = all_of View _ says.view says.view_said in
    let later = sound_append ports (IsOf In) (IsOf View) in_below None says.within says.view tt within_all view_all (are In _ says.within says.within_said within.1) (are View _ says.view says.view_said view.1) in
    let whole = sound_append ports (IsOf At) (λ h. IsOf In h ⊎ IsOf View h) at_below None says.at (says.within ++ says.view) tt at_all (all_later says.within says.view within_all view_all) (are At _ says.at says.at_said at.1) later in
    subst (AreTaken ports) (sym says.all) (sound_taken ports None (says.at ++ (says.within ++ says.view)) whole)
