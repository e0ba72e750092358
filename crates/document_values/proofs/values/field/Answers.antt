use Rattle.toml.proofs.Views.{table_get}
use Rattle.document_values.proofs.values.field.Goals as goal

pub returns : goal.returns
returns c = table_get c.get.result c.args.name.now c.args.fields.now.entries c.get.ensures.value
