use Rattle.std.proofs.Common.{map, subst, ◌∙◌}
use Rattle.toml.specs.View.{view}
use Rattle.kit_documents.specs.NameSets.{AreNames}
use Rattle.kit_documents.proofs.cases.earlier.Earlier.have.Goals as goal

pub returns-in-Some : goal.returns-in-Some
returns-in-Some c =
    let named = subst (λ names. AreNames names (map view c.args.self.now.tables.now)) c.in-Some.is c.args.self.now.named in
    c.contains.ensures ∙ named c.args.name.now
