-- The demands on a case's table, in the order of the tests, and the case that it describes. (docs/CONFORMANCE.md,
-- "Documents")
use Rattle.std.specs.Prelude.{ℕ, ◌≡◌, ◌⊎◌, ◌≤◌, ◌<◌, true, false, List, [], ◌∷◌, ◌++◌, length, map, take, Some, set, codes}
use Rattle.std.specs.List.{list_any}
use Rattle.std.specs.String.{string_bytes}
use Rattle.toml.specs.Data.{Data, string, same_key}
use Rattle.can_frame.specs.declared.level.Level.{Level}
use Rattle.can_frame.specs.declared.level.Level.TheVariants.{Dominant, Recessive}
use Rattle.can_terms.specs.declared.script.Start.{Start}
use Rattle.can_terms.specs.declared.script.TesterLevel.{TesterLevel}
use Rattle.can_terms.specs.declared.script.TesterLevel.TheVariants as tester
use Rattle.kit_documents.specs.declared.field.KitField.{KitField}
use Rattle.kit_documents.specs.declared.field.KitField.TheVariants as field
use Rattle.kit_documents.specs.declared.field.CaseField.{CaseField}
use Rattle.kit_documents.specs.declared.field.CaseField.TheVariants as of_case
use Rattle.document_values.specs.Demands.{Demands, no_demands, demand, followed, demands_on_each}
use Rattle.document_values.specs.Values.{are_known, elements_in, members_in, named, field_number, ArePaired, IsNumber, IsOptional, IsRequired, IsTable}
use Rattle.kit_documents.specs.declared.cases.case.Case.{Case}
use Rattle.kit_documents.specs.declared.cases.words.Choice.{Choice}
use Rattle.kit_documents.specs.declared.cases.words.Needs.{Needs}
use Rattle.kit_documents.specs.Names.{longest_name, IsKitName}
use Rattle.kit_documents.specs.CaseWords.{field_text, IsPurpose, IsText, SaysChoices, SaysNeeds, SaysStart}
use Rattle.kit_documents.specs.declared.cases.lists.CaseList.TheVariants.{Offers, Holds, Forced}
use Rattle.kit_documents.specs.Lists.{case_list_demands, time_in, strings_demands, AreRecessive, IsArrayOf, SaysHold, SaysOffer, SayStrings, SaysTime}

-- a part of the case with this number
abbrev pub in_case : ℕ → CaseField → KitField
in_case number part = field.Case number part

-- ---- the head of a case

-- the fields that a case may have
abbrev pub case_fields : List (List ℕ)
case_fields =
    codes "version" ∷ codes "name" ∷ codes "family" ∷ codes "purpose" ∷ codes "start" ∷ codes "needs" ∷ codes "choices" ∷
    codes "bits" ∷ codes "tester" ∷ codes "offers" ∷ codes "holds" ∷ codes "forced" ∷ []

-- the name in a case's table
abbrev pub case_name : Data → List ℕ
case_name d = field_text (named (codes "name") d)

-- A new name begins with the family and a hyphen, and none of the cases before has it.
pub record IsNewCaseName (earlier : List Data) (family name : List ℕ) : Type 0 where
  pub word : IsKitName longest_name name
  pub rest : List ℕ
  pub begins : name ≡ family ++ (45 ∷ rest)
  pub new : list_any (λ other. same_key name (case_name other)) earlier ≡ false

-- Version, family, name and purpose of a case after these cases.
abbrev pub case_naming_demands : List Data → ℕ → Data → Demands KitField
case_naming_demands earlier number d =
    demand (in_case number of_case.Version) (IsRequired (IsNumber 1) (named (codes "version") d))
    (demand (in_case number of_case.Family) (IsRequired (IsText (IsKitName 40)) (named (codes "family") d))
    (demand (in_case number of_case.Name)
    (IsRequired (IsText (IsNewCaseName earlier (field_text (named (codes "family") d)))) (named (codes "name") d))
    (demand (in_case number of_case.Purpose) (IsOptional (IsText IsPurpose) (named (codes "purpose") d))
    no_demands)))

-- the maximum number of bit times of a case
abbrev pub longest_case : ℕ
longest_case = 100000

-- A number of bit times, 1 to `longest_case`.
abbrev pub IsLength : Data → Type 0
IsLength d = (n : ℕ) × IsNumber n d × (0 < n) × (n ≤ longest_case)

-- Start, needs, choices and number of bit times.
abbrev pub head_demands : ℕ → Data → Demands KitField
head_demands number d =
    demand (in_case number of_case.Start) (IsRequired (λ start. (s : Start) × SaysStart start s) (named (codes "start") d))
    (demand (in_case number of_case.Needs) ((needs : Needs) × SaysNeeds (named (codes "needs") d) needs)
    (demand (in_case number of_case.Choices) ((choices : List Choice) × SaysChoices (named (codes "choices") d) choices)
    (demand (in_case number of_case.Bits) (IsRequired IsLength (named (codes "bits") d))
    no_demands)))

-- ---- the tester

-- the number of bit times in a case's table
abbrev pub case_bits : Data → ℕ
case_bits d = field_number (named (codes "bits") d)

-- the strings of the tester's levels
abbrev pub strings_of : Data → List Data
strings_of d = elements_in (named (codes "tester") d)

-- The tester has 1 to 4096 strings, which together have one level for each bit time of the case.
abbrev pub tester_demands : ℕ → Data → Demands KitField
tester_demands number d =
    demand (in_case number of_case.Tester) (IsRequired (IsArrayOf 1 4096) (named (codes "tester") d))
    (followed (strings_demands (λ place. in_case number (of_case.Levels place)) (strings_of d))
    (demand (in_case number of_case.Tester)
    ((levels : List Level) × SayStrings (strings_of d) levels
    × IsRequired (IsNumber (length levels)) (named (codes "bits") d))
    no_demands))

-- ---- lists

-- The tester is recessive at a forced time.
abbrev pub forced_demands : ℕ → List Data → ℕ → Data → Demands KitField
forced_demands number strings place d =
    demand (in_case number (of_case.ForcedTime place)) (AreRecessive strings (time_in d))
    no_demands

-- Offers, overload requests and forced bit times of a case with this number of bit times.
abbrev pub lists_demands : ℕ → ℕ → Data → Demands KitField
lists_demands number bits d =
    followed (case_list_demands Offers SaysOffer number bits d)
    (followed (case_list_demands Holds SaysHold number bits d)
    (followed (case_list_demands Forced SaysTime number bits d)
    (demands_on_each (forced_demands number (strings_of d)) 0 (elements_in (named (codes "forced") d)))))

-- The needs include `forced` if that list is not empty, and `hold` if `holds` is not.
pub record NeedsAll (d : Data) (needs : Needs) : Type 0 where
  pub said : SaysNeeds (named (codes "needs") d) needs
  pub forced : (needs.forced ≡ true) ⊎ (elements_in (named (codes "forced") d) ≡ [])
  pub hold : (needs.hold ≡ true) ⊎ (elements_in (named (codes "holds") d) ≡ [])

-- ---- a case

-- All fields of a case's table, after these cases.
abbrev pub case_fields_demands : List Data → ℕ → Data → Demands KitField
case_fields_demands earlier number d =
    demand (in_case number of_case.Unknown) (are_known case_fields (members_in d) ≡ true)
    (followed (case_naming_demands earlier number d)
    (followed (head_demands number d)
    (followed (tester_demands number d)
    (followed (lists_demands number (case_bits d) d)
    (demand (in_case number of_case.Needs) ((needs : Needs) × NeedsAll d needs) no_demands)))))

-- A case's table, after these cases.
abbrev pub case_demands : List Data → ℕ → Data → Demands KitField
case_demands earlier number d = demand (in_case number of_case.Table) (IsTable d) (case_fields_demands earlier number d)

-- The tables of all cases, each after those before it.
abbrev pub cases_demands : List Data → Demands KitField
cases_demands ds = demands_on_each (λ number d. case_demands (take number ds) number d) 0 ds

-- ---- the case

-- the tester drives this level
abbrev pub tester_level : Level → TesterLevel
tester_level Dominant = tester.Dominant
tester_level Recessive = tester.Recessive

-- The tester's levels, forced at these times.
abbrev pub forced_at : List ℕ → List TesterLevel → List TesterLevel
forced_at [] levels = levels
forced_at (time ∷ times) levels = forced_at times (set levels time tester.Forced)

-- What the tester does: the levels of its strings, forced at the times of the list.
pub record SaysTester (d : Data) (does : List TesterLevel) : Type 0 where
  pub levels : List Level
  pub strings : SayStrings (strings_of d) levels
  pub times : List ℕ
  pub forced : ArePaired SaysTime (elements_in (named (codes "forced") d)) times
  pub all : does ≡ forced_at times (map tester_level levels)

-- The table describes this case.
pub record SaysCase (d : Data) (c : Case) : Type 0 where
  pub name : named (codes "name") d ≡ Some (string (string_bytes c.name))
  pub needs : SaysNeeds (named (codes "needs") d) c.needs
  pub choices : SaysChoices (named (codes "choices") d) c.choices.items
  pub start : IsRequired (λ start. SaysStart start c.script.start) (named (codes "start") d)
  pub tester : SaysTester d c.script.tester.items
  pub offers : ArePaired SaysOffer (elements_in (named (codes "offers") d)) c.script.offers.items
  pub holds : ArePaired SaysHold (elements_in (named (codes "holds") d)) c.script.holds.items

-- The two cases are equal.
pub record AreSameCases (a b : Case) : Type 0 where
  pub name : string_bytes a.name ≡ string_bytes b.name
  pub needs : a.needs ≡ b.needs
  pub choices : a.choices.items ≡ b.choices.items
  pub start : a.script.start ≡ b.script.start
  pub tester : a.script.tester.items ≡ b.script.tester.items
  pub offers : a.script.offers.items ≡ b.script.offers.items
  pub holds : a.script.holds.items ≡ b.script.holds.items
