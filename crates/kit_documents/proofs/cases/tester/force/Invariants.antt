use Rattle.std.proofs.Common.{◌≡◌, drop, length}
use Rattle.kit_documents.specs.Cases.{forced_at}
use Rattle.kit_documents.proofs.cases.tester.force.Given as goal

abbrev pub invariant-loop-time : goal.invariant-loop-time
invariant-loop-time l = record {
  rest : forced_at (drop l.time-index l.times) l.does ≡ forced_at l.times l.fn.does;
  long : length l.does ≡ length l.fn.does;
}
