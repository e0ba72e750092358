use Rattle.std.proofs.Common.{subst}
use Rattle.kit_documents.specs.Untold.{AreUntold}
use Rattle.kit_documents.proofs.UntoldPlaces.{untold-told}
use Rattle.kit_documents.proofs.transcripts.known.take_out.Goals as goal

pub returns : goal.returns
returns c = λ cases earlier d says before.
    untold-told c.in-Some.untold c.remove.new.self cases earlier d c.args.name says c.remove.ensures.updates (subst (λ untold. AreUntold untold cases earlier) c.in-Some.is before)
