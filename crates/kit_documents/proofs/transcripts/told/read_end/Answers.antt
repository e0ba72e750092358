use Rattle.std.proofs.Common.{◌≡◌, Some, codes, subst, rules}
use Rattle.toml.specs.Data.{table}
use Rattle.toml.specs.View.{table_view, view}
use Rattle.kit_documents.specs.declared.field.KitField.{KitField}
use Rattle.kit_documents.specs.declared.field.TranscriptField.TheVariants as of_transcript
use Rattle.document_values.specs.Demands.{IsFirstUnmet}
use Rattle.document_values.specs.Values.{named}
use Rattle.kit_documents.specs.Transcripts.{end_demands, in_transcript}
use Rattle.kit_documents.proofs.TellingParts.{end-none}
use Rattle.kit_documents.proofs.transcripts.told.read_end.Goals as goal

pub returns-in-None-clause-unmet : goal.returns-in-None-clause-unmet
returns-in-None-clause-unmet c = λ wrong is.
    let d = table (table_view c.args.fields.now) in
    let same : in_transcript c.args.number of_transcript.End ≡ wrong = cc in
    let field : named (codes "end") d ≡ Some (view c.in-Some.value.now) = search rules in
    subst (λ (w : KitField). IsFirstUnmet w (end_demands c.args.number d)) same (end-none c.args.number d (view c.in-Some.value.now) field c.in-None.ensures)
