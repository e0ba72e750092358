use Rattle.std.proofs.Common.{◌≡◌, ℕ, ◌<◌}
use Rattle.can_conform.specs.Runs.{moment_at}
use Rattle.can_conform.specs.Transcripts.{AgreesAt}
use Rattle.can_conform.specs.Walks.{Foresees, HasReached, IsStanding}
use Rattle.can_node.proofs.NodePort.{node_port}
use Rattle.can_conform.proofs.judging.judge.Given as goal

-- the reference is in its state before this bit time, and everything before agrees
abbrev pub invariant-loop-time : goal.invariant-loop-time
invariant-loop-time l = record {
  stands : IsStanding l.script l.time (node_port l.bench.node) l.watch.rule l.watch.since;
  foresees : Foresees l.script l.time l.bench.outlook;
  time : l.bench.time ≡ l.time;
  agrees : (t : ℕ) → t < l.time → AgreesAt l.transcript t (moment_at l.script t);
  reached : HasReached l.transcript l.progress l.time;
}
