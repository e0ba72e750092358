use Rattle.std.proofs.Common.{◌∙◌, ap, map, string_bytes, rules}
use Rattle.std.specs.List.{list_any, list_all}
use Rattle.std.proofs.lemmas.Iterator.Search.{all_from_yields_List}
use Rattle.toml.specs.Data.{same_key}
use Rattle.document_values.proofs.ReadValues.{known-keys, YieldsList-from_keys}
use Rattle.document_values.proofs.values.has_only.Goals as goal

pub returns : goal.returns
returns c =
    let names = map (λ name. name.now) c.args.names.now in
    all_from_yields_List (λ key. list_any (same_key (string_bytes key)) names) _ _ _ c.all.ensures.ran (YieldsList-from_keys c.keys.result) (λ x b q k. search rules)
    ∙ ap (list_all (λ key. list_any (same_key (string_bytes key)) names)) c.keys.ensures.rest
    ∙ known-keys names c.args.fields.now.entries
