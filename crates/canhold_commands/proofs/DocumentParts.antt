-- The parts of a document, read one after another: the top, the cases, the transcripts.
use Rattle.std.proofs.Common.{◌≡◌, ℕ, ◌<◌, List, [], ◌∷◌, length, Option, Some, None, All, subst}
use Rattle.std.proofs.lemmas.List.Elements.{All-cons, All-nil}
use Rattle.std.proofs.lemmas.List.Quantifiers.{position-Some}
use Rattle.toml.specs.Data.{Data, table, no_members, same_key}
use Rattle.kit_documents.specs.declared.field.KitField.{KitField}
use Rattle.document_values.specs.Demands.{Demands, followed, AllMet, IsFirstUnmet}
use Rattle.document_values.specs.Values.{ArePaired, IsRequired}
use Rattle.document_values.proofs.DemandLemmas.{met-followed, unmet-first, unmet-later}
use Rattle.document_values.proofs.ReadLists.{length-paired}
use Rattle.kit_documents.specs.declared.cases.case.Case.{Case}
use Rattle.kit_documents.specs.Cases.{cases_demands, case_name, SaysCase}
use Rattle.kit_documents.specs.CaseWords.{IsText}
use Rattle.kit_documents.specs.declared.transcripts.told.Told.{Told}
use Rattle.kit_documents.specs.Transcripts.{place_where, transcripts_demands, SaysTranscript}
use Rattle.canhold_commands.specs.Documents.{cases_of, document_demands, document_top_demands, transcripts_of}

-- ---- demands

abbrev those_of_transcripts : Data → Demands KitField
those_of_transcripts d = transcripts_demands (cases_of d) (transcripts_of d)

abbrev behind_top : Data → Demands KitField
behind_top d = followed (cases_demands (cases_of d)) (those_of_transcripts d)

module _ (d : Data) (top : AllMet (document_top_demands d)) where
  pub cases-unmet : (wrong : KitField) → IsFirstUnmet wrong (cases_demands (cases_of d)) → IsFirstUnmet wrong (document_demands d)
  cases-unmet wrong unmet = unmet-later wrong (document_top_demands d) (behind_top d) top (unmet-first wrong (cases_demands (cases_of d)) (those_of_transcripts d) unmet)

  pub transcripts-unmet : (wrong : KitField) → AllMet (cases_demands (cases_of d)) → IsFirstUnmet wrong (those_of_transcripts d) → IsFirstUnmet wrong (document_demands d)
  transcripts-unmet wrong cases unmet = unmet-later wrong (document_top_demands d) (behind_top d) top (unmet-later wrong (cases_demands (cases_of d)) (those_of_transcripts d) cases unmet)

  pub document-met : AllMet (cases_demands (cases_of d)) → AllMet (those_of_transcripts d) → AllMet (document_demands d)
  document-met cases transcripts = met-followed (document_top_demands d) (behind_top d) top (met-followed (cases_demands (cases_of d)) (those_of_transcripts d) cases transcripts)

-- ---- the case of a transcript

-- the number of a case that a field names is that of one of these tables
place-within : (tables : List Data) (place : ℕ) (field : Option Data) → IsRequired (IsText (λ name. place_where case_name name tables ≡ Some place)) field → place < length tables
place-within tables place None said = absurd said
place-within tables place (Some d) (name, is, at) = (position-Some (λ one. same_key name (case_name one)) tables place (table no_members) at).0

-- each transcript belongs to one of the cases
pub cases-known : (tables : List Data) (cases : List Case) (ds : List Data) (transcripts : List Told) → ArePaired SaysCase tables cases → ArePaired (SaysTranscript tables) ds transcripts
    → All (λ one. one.case < length cases) transcripts
cases-known tables cases [] [] are pairs = All-nil (λ one. one.case < length cases)
cases-known tables cases [] (t ∷ transcripts) are pairs = absurd pairs
cases-known tables cases (d ∷ ds) [] are pairs = absurd pairs
cases-known tables cases (d ∷ ds) (t ∷ transcripts) are pairs =
    let within = place-within tables t.case _ pairs.0.case in
    All-cons (λ one. one.case < length cases) t transcripts (subst (λ (n : ℕ). t.case < n) (length-paired SaysCase tables cases are) within) (cases-known tables cases ds transcripts are pairs.1)
