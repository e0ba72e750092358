-- The demands on a transcript's table, in the order of the tests, and the transcript that it describes.
-- (docs/CONFORMANCE.md, "Documents")
use Rattle.std.specs.Prelude.{ℕ, ◌≡◌, ◌≤◌, true, codes, List, [], ◌∷◌, length, take, Option, Some, None}
use Rattle.std.specs.List.{position}
use Rattle.toml.specs.Data.{Data, same_key}
use Rattle.can_frame.specs.declared.level.Level.{Level}
use Rattle.can_terms.specs.declared.transcript.Ending.{Ending}
use Rattle.can_terms.specs.declared.transcript.Transcript.{Transcript}
use Rattle.kit_documents.specs.declared.field.KitField.{KitField}
use Rattle.kit_documents.specs.declared.field.KitField.TheVariants as field
use Rattle.kit_documents.specs.declared.field.TranscriptField.{TranscriptField}
use Rattle.kit_documents.specs.declared.field.TranscriptField.TheVariants as of_transcript
use Rattle.document_values.specs.Demands.{Demands, no_demands, demand, followed, demands_on_each}
use Rattle.document_values.specs.Values.{are_known, elements, elements_in, members_in, named, ArePaired, IsNumber, IsOptional, IsRequired, IsTable}
use Rattle.kit_documents.specs.Cases.{case_name}
use Rattle.kit_documents.specs.Lists.{strings_demands, IsArrayOf, SayStrings}
use Rattle.kit_documents.specs.CaseWords.{field_text, IsText}
use Rattle.kit_documents.specs.declared.transcripts.lists.TranscriptList.TheVariants.{Events, Counters}
use Rattle.kit_documents.specs.declared.transcripts.told.Told.{Told}
use Rattle.kit_documents.specs.Elements.{transcript_list_demands, SaysChange, SaysEnd, SaysEventAt, SaysIfThere}

-- a part of the transcript with this number
abbrev pub in_transcript : ℕ → TranscriptField → KitField
in_transcript number part = field.Transcript number part

-- the fields that a transcript may have
abbrev pub transcript_fields : List (List ℕ)
transcript_fields = codes "version" ∷ codes "case" ∷ codes "drove" ∷ codes "events" ∷ codes "counters" ∷ codes "end" ∷ []

-- ---- the case that it belongs to

-- the name of the case in a transcript's table
abbrev pub case_of : Data → List ℕ
case_of d = field_text (named (codes "case") d)

-- The number of the first of these tables with this text.
abbrev pub place_where : (Data → List ℕ) → List ℕ → List Data → Option ℕ
place_where said text tables = position (λ table. same_key text (said table)) tables

-- The name of one of these cases to which none of these transcripts belongs.
pub record IsUntold (cases earlier : List Data) (name : List ℕ) : Type 0 where
  pub place : ℕ
  pub known : place_where case_name name cases ≡ Some place
  pub new : place_where case_of name earlier ≡ None

-- ---- levels

-- the strings of the driven levels
abbrev pub drove_of : Data → List Data
drove_of d = elements_in (named (codes "drove") d)

-- the maximum number of levels of a transcript
abbrev pub most_levels : ℕ
most_levels = 100000

-- At most 4096 strings, which together have at most `most_levels` levels.
abbrev pub drove_demands : ℕ → Data → Demands KitField
drove_demands number d =
    demand (in_transcript number of_transcript.Drove) (IsRequired (IsArrayOf 0 4096) (named (codes "drove") d))
    (followed (strings_demands (λ place. in_transcript number (of_transcript.Levels place)) (drove_of d))
    (demand (in_transcript number of_transcript.Drove)
    ((levels : List Level) × SayStrings (drove_of d) levels × (length levels ≤ most_levels))
    no_demands))

-- ---- a transcript

-- It has no unknown field, version 1, and the name of one of these cases to which none of these transcripts belongs.
abbrev pub transcript_naming_demands : List Data → List Data → ℕ → Data → Demands KitField
transcript_naming_demands cases earlier number d =
    demand (in_transcript number of_transcript.Unknown) (are_known transcript_fields (members_in d) ≡ true)
    (demand (in_transcript number of_transcript.Version) (IsRequired (IsNumber 1) (named (codes "version") d))
    (demand (in_transcript number of_transcript.Case) (IsRequired (IsText (IsUntold cases earlier)) (named (codes "case") d))
    no_demands))

-- The end is valid, or left out.
abbrev pub end_demands : ℕ → Data → Demands KitField
end_demands number d =
    demand (in_transcript number of_transcript.End)
    (IsOptional (λ value. (end : Ending) × SaysEnd value end) (named (codes "end") d))
    no_demands

-- What it lists of the run of its case: levels, events, counters and end.
abbrev pub telling_demands : ℕ → Data → Demands KitField
telling_demands number d =
    followed (drove_demands number d)
    (followed (transcript_list_demands Events SaysEventAt number d)
    (followed (transcript_list_demands Counters SaysChange number d)
    (end_demands number d)))

-- A transcript's table, of one of these cases, after these transcripts.
abbrev pub transcript_demands : List Data → List Data → ℕ → Data → Demands KitField
transcript_demands cases earlier number d =
    demand (in_transcript number of_transcript.Table) (IsTable d)
    (followed (transcript_naming_demands cases earlier number d)
    (telling_demands number d))

-- The tables of all transcripts, each after those before it.
abbrev pub transcripts_demands : List Data → List Data → Demands KitField
transcripts_demands cases ds = demands_on_each (λ number d. transcript_demands cases (take number ds) number d) 0 ds

-- ---- the transcript

-- The table lists this of the run of a case.
pub record SaysTelling (d : Data) (t : Transcript) : Type 0 where
  pub drove : SayStrings (drove_of d) t.drove.items
  pub events : SaysIfThere (λ list events. ArePaired SaysEventAt (elements list) events.items)
      (named (codes "events") d) t.events
  pub counters : SaysIfThere (λ list changes. ArePaired SaysChange (elements list) changes.items)
      (named (codes "counters") d) t.counters
  pub end : SaysIfThere SaysEnd (named (codes "end") d) t.end

-- The table describes this transcript. Its number of the case is that of the first case with the name.
pub record SaysTranscript (cases : List Data) (d : Data) (t : Told) : Type 0 where
  pub case : IsRequired (IsText (λ name. place_where case_name name cases ≡ Some t.case)) (named (codes "case") d)
  pub telling : SaysTelling d t.transcript

-- Both exist and are equal, or neither exists.
abbrev pub AreBoth : {A : Type 0} → (A → A → Type 0) → Option A → Option A → Type 0
AreBoth Same None None = Unit {0}
AreBoth Same None (Some b) = ⊥
AreBoth Same (Some a) None = ⊥
AreBoth Same (Some a) (Some b) = Same a b

-- The two transcripts are equal.
pub record AreSameTranscripts (a b : Told) : Type 0 where
  pub case : a.case ≡ b.case
  pub drove : a.transcript.drove.items ≡ b.transcript.drove.items
  pub events : AreBoth (λ xs ys. xs.items ≡ ys.items) a.transcript.events b.transcript.events
  pub counters : AreBoth (λ xs ys. xs.items ≡ ys.items) a.transcript.counters b.transcript.counters
  pub end : AreBoth (λ e f. e ≡ f) a.transcript.end b.transcript.end
