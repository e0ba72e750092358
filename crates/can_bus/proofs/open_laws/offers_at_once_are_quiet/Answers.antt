use Rattle.can_bus.proofs.OpenAtOnce.{at_once-level, at_once-line_at, at_once-open, at_once-queues, at_once-quiet, at_once-run}
use Rattle.can_bus.proofs.open_laws.offers_at_once_are_quiet.Goals as goal

pub returns : goal.returns
returns c = record {
  to_quiet = λ offers ports starts first call. at_once-quiet offers first ports call.room starts call;
  from_quiet = λ offers ports frames first offered room call. at_once-open offers first ports room frames offered call;
  line = λ offers ports starts first call t. at_once-line_at offers first ports call.room starts call t;
  queues = λ offers ports first room. at_once-queues offers first ports room;
  bus = λ offers n bus first some. at_once-run offers first n bus some;
  levels = λ offers t bus first. at_once-level offers first t bus;
}
