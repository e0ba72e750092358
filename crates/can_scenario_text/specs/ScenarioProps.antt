-- `AreTaken` is a proposition, so a struct may keep it as a ghost field.
use Rattle.std.proofs.Props.{props}
use Rattle.std.proofs.Common.{ℕ, List}
use Rattle.can_terms.specs.declared.hit.Hit.{Hit}
use Rattle.can_terms.specs.Hits.{AreTaken}

pub AreTaken-prop : (ports : ℕ) (hits : List Hit) → IsProp (AreTaken ports hits)
AreTaken-prop ports hits = hlevel props
