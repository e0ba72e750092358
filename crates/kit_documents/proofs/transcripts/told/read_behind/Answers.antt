use Rattle.std.proofs.Common.{◌≡◌, map, refl, sym, subst, inr, rules}
use Rattle.toml.specs.Data.{Data, table}
use Rattle.toml.specs.View.{table_view, view}
use Rattle.document_values.specs.Demands.{AllMet, IsFirstUnmet}
use Rattle.document_values.proofs.DemandLemmas.{met-followed, unmet-later}
use Rattle.kit_documents.specs.Transcripts.{transcript_naming_demands, telling_demands, transcript_demands}
use Rattle.kit_documents.proofs.transcripts.told.read_behind.Goals as goal

pub returns-in_err-transcript-clause-unmet : goal.returns-in_err-transcript-clause-unmet
returns-in_err-transcript-clause-unmet c = λ wrong err.
    let cases = map view c.args.known.now.cases.now in
    let earlier = map view c.args.known.now.earlier.now in
    let fields = table_view c.in-Some.fields.now in
    let is : view c.args.value.now ≡ table fields = search rules in
    let here : IsFirstUnmet wrong (telling_demands c.args.number (table fields)) = search rules in
    subst (λ (d : Data). IsFirstUnmet wrong (transcript_demands cases earlier c.args.number d)) (sym is)
    (inr ((fields, refl), unmet-later wrong (transcript_naming_demands cases earlier c.args.number (table fields)) (telling_demands c.args.number (table fields)) c.in_ok-case.ensures.met here))

pub returns-clause-met : goal.returns-clause-met
returns-clause-met c =
    let cases = map view c.args.known.now.cases.now in
    let earlier = map view c.args.known.now.earlier.now in
    let fields = table_view c.in-Some.fields.now in
    let is : view c.args.value.now ≡ table fields = search rules in
    subst (λ (d : Data). AllMet (transcript_demands cases earlier c.args.number d)) (sym is)
    ((fields, refl), met-followed (transcript_naming_demands cases earlier c.args.number (table fields)) (telling_demands c.args.number (table fields)) c.in_ok-case.ensures.met c.in_ok-transcript.ensures.met)
