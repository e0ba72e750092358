use Rattle.std.proofs.Common.{sym, ◌∙◌}
use Rattle.kit_documents.proofs.UntoldPlaces.{place-back, place-new}
use Rattle.kit_documents.proofs.transcripts.known.add_place.Goals as goal

pub returns-in_default : goal.returns-in_default
returns-in_default c = place-new c.args.places.now c.insert.new.self c.args.name c.args.place (sym c.in_default.is ∙ c.in_ok-first.ensures.old) c.in_ok-first.ensures.updates

pub returns : goal.returns
returns c =
    place-back c.args.places.now c.insert.new.self c.insert-2.new.self c.args.name c.args.place c.in-Some.first (sym c.in-Some.is ∙ c.in_ok-first.ensures.old)
    c.in_ok-first.ensures.updates c.in_ok-insert.ensures.updates
