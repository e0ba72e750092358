use Rattle.std.proofs.Common.{map, take}
use Rattle.toml.specs.View.{view}
use Rattle.kit_documents.specs.Untold.{HasUntold}
use Rattle.kit_documents.proofs.transcripts.known.untold_of.Given as goal

abbrev pub invariant-loop-transcript : goal.invariant-loop-transcript
invariant-loop-transcript l = HasUntold l.places (map view l.cases) (map view (take l.transcript-index l.earlier))
