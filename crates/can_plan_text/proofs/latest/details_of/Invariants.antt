use Rattle.std.proofs.Common.{◌≡◌, ℕ, Some, length}
use Rattle.std.specs.Prelude.{slice_get}
use Rattle.can_plan_text.specs.declared.detail.Detail.{Detail}
use Rattle.can_plan_text.specs.declared.verdict.Verdict.{Verdict}
use Rattle.can_plan_text.specs.Details.{IsDetail}
use Rattle.can_plan_text.proofs.latest.details_of.Given as goal

abbrev pub invariant-loop-place : goal.invariant-loop-place
invariant-loop-place l = (length l.details.items ≡ l.place)
    × ((n : ℕ) (v : Verdict) (d : Detail) → slice_get l.analysis.verdicts.items n ≡ Some v → slice_get l.details.items n ≡ Some d → IsDetail l.plan n v d)
