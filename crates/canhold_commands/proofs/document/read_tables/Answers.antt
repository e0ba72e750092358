use Rattle.std.proofs.Common.{◌≡◌, ◌≤◌, ℕ, List, length, map, subst, sym, ◌∙◌, rules}
use Rattle.std.proofs.lemmas.List.{length-map}
use Rattle.toml.specs.Data.{Data, table}
use Rattle.toml.specs.View.{table_view, view}
use Rattle.document_values.specs.Demands.{AllMet, IsFirstUnmet}
use Rattle.document_values.specs.Values.{ArePaired}
use Rattle.kit_documents.specs.Cases.{cases_demands, SaysCase}
use Rattle.kit_documents.specs.Transcripts.{transcripts_demands, SaysTranscript}
use Rattle.canhold_commands.specs.Documents.{cases_of}
use Rattle.document_values.proofs.ReadLists.{length-paired}
use Rattle.canhold_commands.proofs.DocumentParts.{cases-known, cases-unmet, document-met, transcripts-unmet}
use Rattle.canhold_commands.proofs.document.read_tables.Goals as goal

pub returns-in_err-cases-clause-unmet : goal.returns-in_err-cases-clause-unmet
returns-in_err-cases-clause-unmet c = λ wrong is.
    let d = table (table_view c.args.fields.now) in
    let here : IsFirstUnmet wrong (cases_demands (map view c.in_ok-top.top.cases.now)) = search rules in
    cases-unmet d c.in_ok-top.ensures.met wrong (subst (λ (tables : List Data). IsFirstUnmet wrong (cases_demands tables)) c.in_ok-top.ensures.cases here)

pub returns-in_err-transcripts-clause-unmet : goal.returns-in_err-transcripts-clause-unmet
returns-in_err-transcripts-clause-unmet c = λ wrong is.
    let d = table (table_view c.args.fields.now) in
    let here : IsFirstUnmet wrong (transcripts_demands (map view c.in_ok-top.top.cases.now) (map view c.in_ok-top.top.transcripts.now)) = search rules in
    let there : IsFirstUnmet wrong (transcripts_demands (cases_of d) (map view c.in_ok-top.top.transcripts.now)) =
    subst (λ (tables : List Data). IsFirstUnmet wrong (transcripts_demands tables (map view c.in_ok-top.top.transcripts.now))) c.in_ok-top.ensures.cases here in
    transcripts-unmet d c.in_ok-top.ensures.met wrong (subst (λ (tables : List Data). AllMet (cases_demands tables)) c.in_ok-top.ensures.cases c.in_ok-cases.ensures.met)
    (subst (λ (ds : List Data). IsFirstUnmet wrong (transcripts_demands (cases_of d) ds)) c.in_ok-top.ensures.transcripts there)

pub returns-clause-said : goal.returns-clause-said
returns-clause-said c =
    let d = table (table_view c.args.fields.now) in
    let ds = map view c.in_ok-top.top.transcripts.now in
    let cases : AllMet (cases_demands (cases_of d)) = subst (λ (tables : List Data). AllMet (cases_demands tables)) c.in_ok-top.ensures.cases c.in_ok-cases.ensures.met in
    let among : AllMet (transcripts_demands (cases_of d) ds) = subst (λ (tables : List Data). AllMet (transcripts_demands tables ds)) c.in_ok-top.ensures.cases c.in_ok-transcripts.ensures.met in
    let said : ArePaired (SaysTranscript (cases_of d)) ds c.in_ok-transcripts.transcripts.items =
    subst (λ (tables : List Data). ArePaired (SaysTranscript tables) ds c.in_ok-transcripts.transcripts.items) c.in_ok-top.ensures.cases c.in_ok-transcripts.ensures.said in
    record {
      met = document-met d c.in_ok-top.ensures.met cases (subst (λ (tables : List Data). AllMet (transcripts_demands (cases_of d) tables)) c.in_ok-top.ensures.transcripts among);
      cases = subst (λ (tables : List Data). ArePaired SaysCase tables c.in_ok-cases.cases.items) c.in_ok-top.ensures.cases c.in_ok-cases.ensures.said;
      transcripts = subst (λ (tables : List Data). ArePaired (SaysTranscript (cases_of d)) tables c.in_ok-transcripts.transcripts.items) c.in_ok-top.ensures.transcripts said;
    }

pub returns-clause-known : goal.returns-clause-known
returns-clause-known c =
    cases-known (map view c.in_ok-top.top.cases.now) c.in_ok-cases.cases.items (map view c.in_ok-top.top.transcripts.now) c.in_ok-transcripts.transcripts.items c.in_ok-cases.ensures.said c.in_ok-transcripts.ensures.said

pub returns-clause-few : goal.returns-clause-few
returns-clause-few c =
    let values = c.in_ok-top.top.transcripts.now in
    let same : length values ≡ length c.in_ok-transcripts.transcripts.items =
    sym (length-map values view) ∙ length-paired (SaysTranscript (map view c.in_ok-top.top.cases.now)) (map view values) c.in_ok-transcripts.transcripts.items c.in_ok-transcripts.ensures.said in
    subst (λ (n : ℕ). n ≤ 4096) same c.in_ok-top.ensures.few
