use Rattle.kit_documents.proofs.WordLists.{begins-on}
use Rattle.kit_documents.proofs.cases.naming.begins_with.Goals as goal

pub returns-in-Some : goal.returns-in-Some
returns-in-Some c = begins-on c.args.name.now c.args.family.now c.in-Some.rest.now c.begins_with_hyphen.result c.in-Some.ensures c.begins_with_hyphen.ensures
