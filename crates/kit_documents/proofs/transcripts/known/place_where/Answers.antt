use Rattle.std.specs.Str.{bytes_eq}
use Rattle.std.proofs.Common.{◌∙◌, rules}
use Rattle.std.proofs.lemmas.Iterator.{YieldsList-from_slice}
use Rattle.std.proofs.lemmas.Iterator.Search.{position_from_yields_List}
use Rattle.toml.specs.View.{view}
use Rattle.document_values.specs.Values.{named}
use Rattle.kit_documents.specs.CaseWords.{field_text}
use Rattle.kit_documents.proofs.Places.{place-found}
use Rattle.kit_documents.proofs.transcripts.known.place_where.Goals as goal

pub returns : goal.returns
returns c =
    let text = c.args.text.now in
    let key = c.args.key.now in
    let tables = c.args.tables.now in
    position_from_yields_List (λ value. bytes_eq text (field_text (named key (view value)))) _ _ _ c.position.ensures.ran (YieldsList-from_slice tables cc) (λ x b q k. search rules)
    ∙ place-found (λ value. field_text (named key value)) text tables
