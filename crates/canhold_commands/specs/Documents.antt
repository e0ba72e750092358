-- Kit documents: the demands on the bytes, in the order of the tests, and the document that they are.
-- (docs/CONFORMANCE.md, "Documents")
use Rattle.std.specs.Prelude.{ℕ, ◌≡◌, true, codes, List, [], ◌∷◌}
use Rattle.toml.specs.Data.{Data}
use Rattle.kit_documents.specs.declared.field.KitField.{KitField}
use Rattle.kit_documents.specs.declared.field.KitField.TheVariants as field
use Rattle.document_values.specs.Demands.{Demands, no_demands, demand, followed, AllMet}
use Rattle.document_values.specs.Refusals.{IsWrongField}
use Rattle.document_values.specs.Values.{are_known, elements_in, members_in, named, ArePaired, IsDocument, IsOptional}
use Rattle.kit_documents.specs.Cases.{cases_demands, SaysCase}
use Rattle.kit_documents.specs.Lists.{IsArrayOf}
use Rattle.kit_documents.specs.Transcripts.{transcripts_demands, SaysTranscript}
use Rattle.canhold_commands.specs.declared.document.Document.{Document}

-- ---- demands

-- the fields at the top level
abbrev pub document_fields : List (List ℕ)
document_fields = codes "case" ∷ codes "transcript" ∷ []

-- the tables of cases
abbrev pub cases_of : Data → List Data
cases_of d = elements_in (named (codes "case") d)

-- the tables of transcripts
abbrev pub transcripts_of : Data → List Data
transcripts_of d = elements_in (named (codes "transcript") d)

-- The fields at the top level: two lists of at most 4096 elements each, which may be left out, and no others.
abbrev pub document_top_demands : Data → Demands KitField
document_top_demands d =
    demand field.Unknown (are_known document_fields (members_in d) ≡ true)
    (demand field.Cases (IsOptional (IsArrayOf 0 4096) (named (codes "case") d))
    (demand field.Transcripts (IsOptional (IsArrayOf 0 4096) (named (codes "transcript") d))
    no_demands))

-- The top level, then each case, then each transcript.
abbrev pub document_demands : Data → Demands KitField
document_demands d =
    followed (document_top_demands d)
    (followed (cases_demands (cases_of d))
    (transcripts_demands (cases_of d) (transcripts_of d)))

-- ---- the document

-- The tables meet all demands, and describe these cases and these transcripts.
pub record SaysDocument (d : Data) (document : Document) : Type 0 where
  pub met : AllMet (document_demands d)
  pub cases : ArePaired SaysCase (cases_of d) document.cases.items
  pub transcripts : ArePaired (SaysTranscript (cases_of d)) (transcripts_of d) document.transcripts.items

-- The bytes are this kit document.
abbrev pub IsKitText : List ℕ → Document → Type 0
IsKitText bytes document = (d : Data) × IsDocument bytes d × SaysDocument d document

-- ---- invalid documents

-- The field is the first invalid one of bytes that do not meet these demands.
abbrev pub IsWrongKitField : (Data → Demands KitField) → KitField → List ℕ → Type 0
IsWrongKitField demands wrong bytes = IsWrongField field.Document demands wrong bytes
