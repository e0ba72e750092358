use Rattle.std.proofs.Common.{subst, sym, ◌∙◌}
use Rattle.can_frame.specs.declared.level.Level.TheVariants.{Dominant, Recessive}
use Rattle.can_wire.specs.Wire.{head, IsSpelling}
use Rattle.can_wire.proofs.WireLemmas.{IsSpelling-spelling_of, IsSpelling-only, wire-spelling_of}
use Rattle.can_wire.proofs.laws.one_wire.Goals as goal

pub returns-clause-exists : goal.returns-clause-exists
returns-clause-exists c = λ f. subst (IsSpelling (head f) Dominant Recessive) (sym (wire-spelling_of f)) (IsSpelling-spelling_of (head f) Dominant Recessive)

pub returns-clause-only : goal.returns-clause-only
returns-clause-only c = λ f w s. IsSpelling-only (head f) Dominant Recessive w s ∙ sym (wire-spelling_of f)
