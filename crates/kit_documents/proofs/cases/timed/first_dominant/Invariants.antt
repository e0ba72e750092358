use Rattle.std.proofs.Common.{◌≡◌, All, Some, take}
use Rattle.std.specs.List.{slice_get}
use Rattle.can_frame.specs.declared.level.Level.TheVariants.{Recessive}
use Rattle.kit_documents.proofs.cases.timed.first_dominant.Given as goal

abbrev pub invariant-loop-place : goal.invariant-loop-place
invariant-loop-place l = All (λ time. slice_get l.levels time ≡ Some Recessive) (take l.place l.times)
