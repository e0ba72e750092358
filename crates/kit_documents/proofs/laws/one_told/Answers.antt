use Rattle.document_values.proofs.DemandLemmas.{met-unmet, one-unmet}
use Rattle.kit_documents.specs.Transcripts.{transcripts_demands}
use Rattle.kit_documents.proofs.OneTranscript.{one-transcript}
use Rattle.kit_documents.proofs.laws.one_told.Goals as goal

pub returns-clause-transcript : goal.returns-clause-transcript
returns-clause-transcript c = one-transcript

pub returns-clause-no_field : goal.returns-clause-no_field
returns-clause-no_field c = λ cases ds wrong met unmet. met-unmet wrong (transcripts_demands cases ds) met unmet

pub returns-clause-one_field : goal.returns-clause-one_field
returns-clause-one_field c = λ cases ds wrong other a b. one-unmet wrong other (transcripts_demands cases ds) a b
