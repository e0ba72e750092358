use Rattle.std.proofs.Common.{map, sym, subst, take}
use Rattle.toml.specs.View.{view}
use Rattle.kit_documents.specs.Untold.{HasUntold}
use Rattle.kit_documents.proofs.UntoldPlaces.{tables-more, untold-told}
use Rattle.kit_documents.proofs.transcripts.known.untold_of.Goals as goal

pub loop-transcript-preserved : goal.loop-transcript-preserved
loop-transcript-preserved c =
    let cases = map view c.args.cases.now in
    let earlier = c.args.earlier.now in
    let place = c.loop-transcript.transcript-index in
    let value = c.transcript-item.result in
    subst (λ ds. HasUntold c.remove.new.self cases ds) (sym (tables-more earlier place value c.loop-transcript-test.true c.transcript-item.is))
    (untold-told c.loop-transcript.places c.remove.new.self cases (map view (take place earlier)) (view value) c.text_said.result c.text_said.ensures c.remove.ensures.updates c.loop-transcript.invariant)
