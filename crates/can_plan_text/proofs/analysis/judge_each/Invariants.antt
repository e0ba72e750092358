use Rattle.std.proofs.Common.{◌≡◌}
use Rattle.can_plan_text.specs.Answers.{AreVerdicts, hit_rate_of, limit}
use Rattle.can_plan_text.proofs.analysis.judge_each.Given as goal

abbrev pub invariant-loop-place : goal.invariant-loop-place
invariant-loop-place l = AreVerdicts l.plan l.place l.verdicts.items
    × ((l.responses.messages.now ≡ l.messages) × (l.responses.rate ≡ hit_rate_of l.plan.errors) × (l.responses.limit ≡ limit) × (l.responses.place ≡ l.place))
