-- The words of a case's table: texts, start, needs and choices. (docs/CONFORMANCE.md, "Documents")
use Rattle.std.specs.Prelude.{ℕ, ◌≡◌, ◌≢◌, MatchBool, ◌==◌, ◌≤◌, Bool, true, not, if◌then◌else◌, List, [], ◌∷◌, ◌++◌, length, map, Option, Some, codes}
use Rattle.std.specs.List.{list_all}
use Rattle.toml.specs.Data.{Data, string}
use Rattle.document_values.specs.Values.{elements_in, IsArray, IsOptional}
use Rattle.can_terms.specs.declared.script.Start.{Start}
use Rattle.can_terms.specs.declared.script.Start.TheVariants.{Idle, Joining}
use Rattle.kit_documents.specs.declared.cases.words.Needs.{Needs}
use Rattle.kit_documents.specs.declared.cases.words.Choice.{Choice}
use Rattle.kit_documents.specs.declared.cases.words.Choice.TheVariants.{ReservedLevels, StuffException, OwnStart, FlagErrorOnce, OwnOverload, Rec127, RecoveryByItself, RecoveryRows, Prompt}

-- ---- texts

-- A string whose text meets P.
abbrev pub IsText : (List ℕ → Type 0) → Data → Type 0
IsText P d = (text : List ℕ) × (d ≡ string text) × P text

-- The text of a field; empty if there is none, or if it is not a string.
abbrev pub field_text : Option Data → List ℕ
field_text (Some (string text)) = text
field_text _ = []

-- A purpose is one line of at most 200 bytes.
pub record IsPurpose (text : List ℕ) : Type 0 where
  pub few : length text ≤ 200
  pub one_line : list_all (λ byte. not (byte == 10)) text ≡ true

-- ---- words

-- the word for a start
abbrev pub start_word : Start → List ℕ
start_word Idle = codes "idle"
start_word Joining = codes "joining"

-- the words for these needs, in this order
abbrev pub need_words : Needs → List (List ℕ)
need_words n =
    (if n.forced then codes "forced" ∷ [] else []) ++
    ((if n.hold then codes "hold" ∷ [] else []) ++
    ((if n.queue then codes "queue" ∷ [] else []) ++
    (if n.recovery then codes "recovery" ∷ [] else [])))

-- the word for a choice
abbrev pub choice_word : Choice → List ℕ
choice_word ReservedLevels = codes "reserved-levels"
choice_word StuffException = codes "stuff-exception"
choice_word OwnStart = codes "own-start"
choice_word FlagErrorOnce = codes "flag-error-once"
choice_word OwnOverload = codes "own-overload"
choice_word Rec127 = codes "rec-127"
choice_word RecoveryByItself = codes "recovery-by-itself"
choice_word RecoveryRows = codes "recovery-rows"
choice_word Prompt = codes "prompt"

-- ---- values

-- The value is the word for this start.
abbrev pub SaysStart : Data → Start → Type 0
SaysStart d start = d ≡ string (start_word start)

-- An array of these words. If it is left out, there are none.
pub record AreWords (words : List (List ℕ)) (field : Option Data) : Type 0 where
  pub list : IsOptional IsArray field
  pub said : elements_in field ≡ map string words

-- An array of the words for these needs.
abbrev pub SaysNeeds : Option Data → Needs → Type 0
SaysNeeds field needs = AreWords (need_words needs) field

-- An array of the words for these choices.
abbrev pub SaysChoices : Option Data → List Choice → Type 0
SaysChoices field choices = AreWords (map choice_word choices) field

-- Whether the list begins with this word, and the rest after it; the whole list if it does not.
abbrev pub TakesWord : List ℕ → List Data → Bool → List Data → Type 0
TakesWord word ds taken rest =
    MatchBool taken (ds ≡ string word ∷ rest)
    ((rest ≡ ds) × ((more : List Data) → ds ≢ string word ∷ more))
