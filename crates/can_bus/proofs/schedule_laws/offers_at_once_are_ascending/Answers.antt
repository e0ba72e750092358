use Rattle.can_bus.proofs.AtOnce.{at_once-frames, at_once-line}
use Rattle.can_bus.proofs.schedule_laws.offers_at_once_are_ascending.Goals as goal

pub returns : goal.returns
returns c = record { frames = at_once-frames; line = at_once-line }
