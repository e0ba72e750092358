use Rattle.std.proofs.Common.{subst}
use Rattle.kit_documents.specs.NameSets.{AreNames}
use Rattle.kit_documents.proofs.NamesBefore.{names-more}
use Rattle.kit_documents.proofs.cases.earlier.keep.Goals as goal

pub returns-clause-one_more : goal.returns-clause-one_more
returns-clause-one_more c = λ cases d says before.
    names-more c.in-Some.names c.insert.new.self c.args.name cases d says c.in_ok-insert.ensures.updates (subst (λ names. AreNames names cases) c.in-Some.is before)
