use Rattle.std.proofs.Common.{◌∙◌, bytes_eq, rules}
use Rattle.std.proofs.lemmas.Iterator.{YieldsList-from_slice}
use Rattle.std.proofs.lemmas.Iterator.Search.{any_from_yields_List}
use Rattle.document_values.proofs.ReadValues.{names-among}
use Rattle.document_values.proofs.values.is_among.Goals as goal

pub returns : goal.returns
returns c =
    let name = c.args.name.now in
    let names = c.args.names.now in
    any_from_yields_List (λ known. bytes_eq name known.now) _ _ _ c.any.ensures.ran (YieldsList-from_slice names cc) (λ x b q k. search rules)
    ∙ names-among name names
