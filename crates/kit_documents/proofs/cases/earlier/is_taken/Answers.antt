use Rattle.std.specs.Str.{bytes_eq}
use Rattle.std.proofs.Common.{◌∙◌, rules}
use Rattle.std.proofs.lemmas.Iterator.{YieldsList-from_slice}
use Rattle.std.proofs.lemmas.Iterator.Search.{any_from_yields_List}
use Rattle.toml.specs.View.{view}
use Rattle.kit_documents.specs.Cases.{case_name}
use Rattle.kit_documents.proofs.WordLists.{names-taken}
use Rattle.kit_documents.proofs.cases.earlier.is_taken.Goals as goal

pub returns : goal.returns
returns c =
    let name = c.args.name.now in
    let values = c.args.earlier.now in
    any_from_yields_List (λ value. bytes_eq name (case_name (view value))) _ _ _ c.any.ensures.ran (YieldsList-from_slice values cc) (λ x b q k. search rules)
    ∙ names-taken name values
