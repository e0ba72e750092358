use Rattle.std.proofs.Common.{◌≡◌}
use Rattle.can_conform.specs.Runs.{before, counters_of, moment_at}
use Rattle.can_conform.specs.Transcripts.{changed_in}
use Rattle.can_conform.specs.Walks.{Foresees}
use Rattle.can_conform.proofs.Drives.{AreDriven}
use Rattle.can_conform.proofs.Growing.{IsToldUpTo}
use Rattle.can_node.proofs.NodePort.{node_port}
use Rattle.can_conform.proofs.expecting.expect.Given as goal

-- the reference is in its state before this bit time, and the transcript has everything before it
abbrev pub invariant-loop-time : goal.invariant-loop-time
invariant-loop-time l = record {
  port : node_port l.bench.node ≡ before l.script l.time;
  foresees : Foresees l.script l.time l.bench.outlook;
  time : l.bench.time ≡ l.time;
  drove : AreDriven l.script l.drove.items l.time;
  events : IsToldUpTo (λ t. (moment_at l.script t).event) l.events.items l.time;
  counters : IsToldUpTo (changed_in l.script) l.counters.items l.time;
  held : l.held ≡ counters_of (before l.script l.time);
}
