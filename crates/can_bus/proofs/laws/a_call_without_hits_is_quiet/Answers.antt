use Rattle.can_bus.proofs.BorneHits.{quiet-tally}
use Rattle.can_bus.proofs.RepairedCalls.{quiet-call, repaired-call, quiet-span}
use Rattle.can_bus.proofs.laws.a_call_without_hits_is_quiet.Goals as goal

pub returns : goal.returns
returns c = record { quiet = quiet-call; repaired = repaired-call; span = quiet-span; tally = quiet-tally }
