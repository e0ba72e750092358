use Rattle.can_trace.proofs.RoomForAll.{none-refused}
use Rattle.can_trace.proofs.laws.no_offer_finds_a_full_queue.Goals as goal

pub returns : goal.returns
returns c = none-refused
