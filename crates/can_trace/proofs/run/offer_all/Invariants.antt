use Rattle.std.proofs.Common.{◌≡◌, ◌+◌, ◌≤◌, length, map, drop}
use Rattle.can_node.specs.Ports.{all_offered}
use Rattle.can_scenario_text.specs.declared.scenario.TimedFrame.{TimedFrame}
use Rattle.can_trace.proofs.run.offer_all.Given as goal

-- the frames that are left make of the port what all of them make of the one at the start, and there is space for
-- them
abbrev pub invariant-loop-timed : goal.invariant-loop-timed
invariant-loop-timed g l =
    let now = g.P.Port.port l.port in
    record {
      offered : all_offered (map (λ (timed : TimedFrame). timed.frame) (drop l.timed-index l.queue)) now ≡ all_offered (map (λ (timed : TimedFrame). timed.frame) l.queue) (g.P.Port.port l.fn.port);
      room : length now.queue + length l.queue ≤ now.queue_room + l.timed-index;
    }
