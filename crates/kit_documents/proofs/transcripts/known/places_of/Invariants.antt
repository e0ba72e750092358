use Rattle.std.proofs.Common.{[], map, take}
use Rattle.toml.specs.View.{view}
use Rattle.kit_documents.specs.Untold.{HasUntold}
use Rattle.kit_documents.proofs.transcripts.known.places_of.Given as goal

abbrev pub invariant-loop-place : goal.invariant-loop-place
invariant-loop-place l = HasUntold l.places (map view (take l.place l.cases)) []
