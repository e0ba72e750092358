use Rattle.std.proofs.Common.{inl, inr, subst, ◌∙◌}
use Rattle.can_bus.specs.Walks.{AreBelow, in_now}
use Rattle.can_bus.proofs.CursorLemmas.{wire_answer, true_or, false_or}
use Rattle.can_bus.proofs.call.Call.hits_wire.Goals as goal
use Rattle.can_bus.proofs.call.Call.hits_wire.Goals.{in-None, in-Some}

pub reach-by_attempt-requires-clause-passed : goal.reach-by_attempt-requires-clause-passed
reach-by_attempt-requires-clause-passed c =
    subst (λ l. AreBelow c.args.hits.now c.args.self.now.within.place (in_now l)) c.in-Some.is c.requires.within

pub returns-then-by_time-clause-result : goal.returns-then-by_time-clause-result
returns-then-by_time-clause-result c =
    true_or c.reach-by_time.result c.match-self.by_attempt c.if-by_time.true
    ∙ wire_answer c.args.self.now.time c.args.self.now.latest c.args.hits.now _ _ c.reach-by_time.ensures.result
    (elim c.match-self.branch [
      | in-None w ↦ inl (w.in-None.is, w.by_attempt-is)
      | in-Some w ↦ inr (w.in-Some.attempt, w.in-Some.is, w.by_attempt-is ∙ w.reach-by_attempt.ensures.result)
    ])

pub returns-else-by_time-clause-result : goal.returns-else-by_time-clause-result
returns-else-by_time-clause-result c =
    false_or c.reach-by_time.result c.match-self.by_attempt c.if-by_time.false
    ∙ wire_answer c.args.self.now.time c.args.self.now.latest c.args.hits.now _ _ c.reach-by_time.ensures.result
    (elim c.match-self.branch [
      | in-None w ↦ inl (w.in-None.is, w.by_attempt-is)
      | in-Some w ↦ inr (w.in-Some.attempt, w.in-Some.is, w.by_attempt-is ∙ w.reach-by_attempt.ensures.result)
    ])
