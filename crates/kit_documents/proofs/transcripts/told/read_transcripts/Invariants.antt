use Rattle.std.proofs.Common.{◌≡◌, All, map, take}
use Rattle.toml.specs.View.{view}
use Rattle.can_terms.specs.Cases.{IsTold}
use Rattle.document_values.proofs.ReadLists.{IsRead}
use Rattle.kit_documents.specs.Transcripts.{transcript_demands, SaysTranscript}
use Rattle.kit_documents.proofs.transcripts.told.read_transcripts.Given as goal

abbrev pub invariant-loop-number : goal.invariant-loop-number
invariant-loop-number l =
    IsRead (λ number d. transcript_demands (map view l.cases) (take number (map view l.values)) number d) (SaysTranscript (map view l.cases)) l.values l.number l.read.items
    × All (λ one. IsTold one.transcript) l.read.items
    × (l.known.cases.now ≡ l.cases) × (l.known.earlier.now ≡ take l.number l.values)
