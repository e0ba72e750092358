use Rattle.std.proofs.Common.{◌∙◌, ap, map}
use Rattle.toml.specs.View.{view}
use Rattle.document_values.proofs.ReadValues.{elements-array}
use Rattle.document_values.proofs.values.elements_of.Goals as goal

pub returns-clause-said : goal.returns-clause-said
returns-clause-said c = ap (map view) c.as_slice.ensures.value ∙ elements-array _ _ c.in_ok-as_array.ensures
