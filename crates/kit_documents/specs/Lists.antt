-- Levels in strings, and lists whose elements have times. (docs/CONFORMANCE.md, "Documents")
use Rattle.std.specs.Prelude.{ℕ, ◌≡◌, ◌+◌, ◌≤◌, ◌<◌, pos, codes, take, All, List, [], ◌∷◌, ◌++◌, length, Some, slice_get}
use Rattle.toml.specs.Data.{Data, string, integer, array, item}
use Rattle.can_frame.specs.Parts.{Parts}
use Rattle.can_frame.specs.declared.level.Level.{Level}
use Rattle.can_frame.specs.declared.level.Level.TheVariants.{Recessive}
use Rattle.can_terms.specs.declared.timed.Timed.{Timed}
use Rattle.kit_documents.specs.LevelTexts.{SaysLevels}
use Rattle.document_values.specs.Demands.{Demands, no_demands, demand, demands_on_each}
use Rattle.document_values.specs.Values.{elements, elements_in, named, two, IsArray, IsNumber, IsOptional, SaysFrame}
use Rattle.kit_documents.specs.declared.field.KitField.{KitField}
use Rattle.kit_documents.specs.declared.field.KitField.TheVariants as field
use Rattle.kit_documents.specs.declared.field.CaseField.{CaseField}
use Rattle.kit_documents.specs.declared.field.CaseField.TheVariants as of_case
use Rattle.kit_documents.specs.declared.cases.lists.CaseList.{CaseList}
use Rattle.kit_documents.specs.declared.cases.lists.CaseList.TheVariants as list

-- An array of at least `least` and at most `most` elements.
abbrev pub IsArrayOf : ℕ → ℕ → Data → Type 0
IsArrayOf least most d = IsArray d × (least ≤ length (elements d)) × (length (elements d) ≤ most)

-- ---- levels

-- The value is a string with these levels.
abbrev pub SaysString : Data → List Level → Type 0
SaysString d levels = (text : List ℕ) × (d ≡ string text) × SaysLevels text levels

-- The values are strings with these levels, one string after another.
abbrev pub SayStrings : List Data → List Level → Type 0
SayStrings [] levels = levels ≡ []
SayStrings (d ∷ ds) levels =
    (first : List Level) × (rest : List Level)
    × SaysString d first × SayStrings ds rest × (levels ≡ first ++ rest)

-- The first `most` of the levels in these strings, or all if there are fewer.
abbrev pub SayUpTo : ℕ → List Data → List Level → Type 0
SayUpTo most ds levels = (all : List Level) × SayStrings ds all × (levels ≡ take most all)

-- ---- elements with their times

-- The time of an element: the number itself, or the first of an array. It is 0 if there is none.
abbrev pub time_in : Data → ℕ
time_in (integer (pos time)) = time
time_in (array (item (integer (pos time)) rest)) = time
time_in _ = 0

-- The time of an element is below the end, and at least `apart` later than that of each element before it.
pub record IsInTime (end apart : ℕ) (before : List Data) (d : Data) : Type 0 where
  pub within : time_in d < end
  pub behind : All (λ e. time_in e + apart ≤ time_in d) before

-- An offer is an array of its time and the text of its frame.
abbrev pub SaysOffer : Data → Timed Parts → Type 0
SaysOffer d offer = (frame : Data) × (d ≡ two (integer (pos offer.time)) frame) × SaysFrame frame offer.told

-- An overload request is an array of its time and the number of frames, 0 to 2.
abbrev pub SaysHold : Data → Timed ℕ → Type 0
SaysHold d hold = (d ≡ two (integer (pos hold.time)) (integer (pos hold.told))) × (hold.told ≤ 2)

-- A forced bit time is its time.
abbrev pub SaysTime : Data → ℕ → Type 0
SaysTime d time = IsNumber time d

-- The level at this time in these strings is recessive.
abbrev pub AreRecessive : List Data → ℕ → Type 0
AreRecessive strings time = (levels : List Level) × SayStrings strings levels × (slice_get levels time ≡ Some Recessive)

-- ---- the lists by name

-- the key of a list
abbrev pub case_list_name : CaseList → List ℕ
case_list_name list.Offers = codes "offers"
case_list_name list.Holds = codes "holds"
case_list_name list.Forced = codes "forced"

-- the maximum number of elements of a list
abbrev pub most_case_elements : CaseList → ℕ
most_case_elements list.Offers = 256
most_case_elements list.Holds = 256
most_case_elements list.Forced = 4096

-- The minimum distance of successive times: times of offers and requests do not fall, forced bit times rise.
abbrev pub apart : CaseList → ℕ
apart list.Offers = 0
apart list.Holds = 0
apart list.Forced = 1

-- a list, as errors name it
abbrev pub case_list_field : CaseList → CaseField
case_list_field list.Offers = of_case.Offers
case_list_field list.Holds = of_case.Holds
case_list_field list.Forced = of_case.Forced

-- the element of a list with this number, as errors name it
abbrev pub case_element_field : CaseList → ℕ → CaseField
case_element_field list.Offers place = of_case.Offer place
case_element_field list.Holds place = of_case.Hold place
case_element_field list.Forced place = of_case.ForcedTime place

-- ---- demands

-- An element of a list has a valid value, and its time is below the end and at least `apart` after the times before it.
abbrev pub element_demands : {A : Type 0} → (ℕ → KitField) → (Data → A → Type 0)
    → ℕ → ℕ → List Data → ℕ → Data → Demands KitField
element_demands {A} told Says end apart all place d =
    demand (told place) (((x : A) × Says d x) × IsInTime end apart (take place all) d) no_demands

-- All elements of such a list.
abbrev pub elements_demands : {A : Type 0} → (ℕ → KitField) → (Data → A → Type 0)
    → ℕ → ℕ → List Data → Demands KitField
elements_demands told Says end apart all = demands_on_each (element_demands told Says end apart all) 0 all

-- A list of the case with this number, which has this number of bit times. A list that is left out is empty.
abbrev pub case_list_demands : {A : Type 0} → CaseList → (Data → A → Type 0) → ℕ → ℕ → Data → Demands KitField
case_list_demands list Says number bits d =
    demand (field.Case number (case_list_field list))
    (IsOptional (IsArrayOf 0 (most_case_elements list)) (named (case_list_name list) d))
    (elements_demands (λ place. field.Case number (case_element_field list place)) Says bits (apart list)
    (elements_in (named (case_list_name list) d)))

-- A value is a string of levels.
abbrev pub string_demands : (ℕ → KitField) → ℕ → Data → Demands KitField
string_demands told place d = demand (told place) ((levels : List Level) × SaysString d levels) no_demands

-- All values are strings of levels.
abbrev pub strings_demands : (ℕ → KitField) → List Data → Demands KitField
strings_demands told ds = demands_on_each (string_demands told) 0 ds
