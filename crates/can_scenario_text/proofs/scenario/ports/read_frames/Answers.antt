use Rattle.std.proofs.Common.{rules, arith}
use Rattle.toml.specs.View.{view}
use Rattle.document_values.specs.Demands.{IsFirstUnmet}
use Rattle.can_scenario_text.specs.Scenarios.{frame_demands, SaysQueueElement}
use Rattle.document_values.proofs.ReadLists.{IsRead-more, unmet-next, met-all, said-all}
use Rattle.can_scenario_text.proofs.scenario.ports.read_frames.Goals as goal

pub returns-in_default-clause-unmet : goal.returns-in_default-clause-unmet
returns-in_default-clause-unmet c = λ wrong told.
    let one = frame_demands c.args.version c.args.number in
    let here : IsFirstUnmet wrong (one c.loop-place.place (view c.index-values-place.result)) = search rules in
    unmet-next one (SaysQueueElement c.args.version) c.args.values.now c.loop-place.place _ c.index-values-place.result wrong c.loop-place-test.true c.index-values-place.is here c.loop-place.invariant

pub loop-place-preserved : goal.loop-place-preserved
loop-place-preserved c =
    rw c.in_ok-push.ensures.items (IsRead-more (frame_demands c.args.version c.args.number) (SaysQueueElement c.args.version) c.args.values.now c.loop-place.place _ c.index-values-place.result _ c.loop-place-test.true c.index-values-place.is (c.in-Some.ensures.met, tt) c.in-Some.ensures.said c.loop-place.invariant)

pub returns-clause-said : goal.returns-clause-said
returns-clause-said c = said-all (frame_demands c.args.version c.args.number) (SaysQueueElement c.args.version) c.args.values.now c.loop-place.place _ (omega arith) c.loop-place.invariant

pub returns-clause-met : goal.returns-clause-met
returns-clause-met c = met-all (frame_demands c.args.version c.args.number) (SaysQueueElement c.args.version) c.args.values.now c.loop-place.place _ (omega arith) c.loop-place.invariant
