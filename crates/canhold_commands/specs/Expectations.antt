-- What `canhold expect` writes: the document, followed by the reference's transcript of each case.
-- (docs/CONFORMANCE.md, "What is expected")
use Rattle.std.specs.Prelude.{ℕ, ◌≡◌, codes, None, List, [], ◌∷◌, ◌++◌}
use Rattle.std.specs.String.{string_bytes}
use Rattle.toml.specs.Data.{Data}
use Rattle.can_terms.specs.declared.transcript.Transcript.{Transcript}
use Rattle.can_conform.specs.Transcripts.{IsTranscript}
use Rattle.kit_documents.specs.declared.field.KitField.{KitField}
use Rattle.kit_documents.specs.declared.field.KitField.TheVariants as field
use Rattle.document_values.specs.Demands.{Demands, no_demands, demand, followed}
use Rattle.document_values.specs.Values.{named, IsDocument}
use Rattle.kit_documents.specs.declared.cases.case.Case.{Case}
use Rattle.canhold_commands.specs.Transcripts.{transcript_text}
use Rattle.canhold_commands.specs.declared.document.Document.{Document}
use Rattle.canhold_commands.specs.Documents.{document_demands, SaysDocument}

-- The list of transcripts is left out. No tables could follow an empty one.
abbrev pub HasCasesAlone : Data → Type 0
HasCasesAlone d = named (codes "transcript") d ≡ None

-- The demands on a kit document, and that it has no such list.
abbrev pub cases_alone_demands : Data → Demands KitField
cases_alone_demands d = followed (document_demands d) (demand field.Transcripts (HasCasesAlone d) no_demands)

-- The bytes are this kit document, and it has no such list.
abbrev pub IsCasesText : List ℕ → Document → Type 0
IsCasesText bytes document = (d : Data) × IsDocument bytes d × SaysDocument d document × HasCasesAlone d

-- These bytes are followed by the table of the one complete transcript of the case.
pub record AddsTable (c : Case) (before after : List ℕ) : Type 0 where
  pub told : Transcript
  pub all_told : IsTranscript c.script told
  pub text : after ≡ before ++ transcript_text (string_bytes c.name) told

-- These bytes are followed by such a table for each case, in order.
abbrev pub AddTables : List Case → List ℕ → List ℕ → Type 0
AddTables [] before after = after ≡ before
AddTables (c ∷ cases) before after = (between : List ℕ) × AddsTable c before between × AddTables cases between after

-- The bytes are a kit document without a list of transcripts. The output is these bytes, followed by the tables.
pub record IsExpected (bytes answer : List ℕ) : Type 0 where
  pub document : Document
  pub read : IsCasesText bytes document
  pub tables : AddTables document.cases.items bytes answer
