use Rattle.std.proofs.Common.{sym}
use Rattle.can_mac.proofs.PartEnds.{part_ended}
use Rattle.can_mac.proofs.moves.stuffed_part.end_of_part.Goals as goal

pub returns-in-CrcDelimiter : goal.returns-in-CrcDelimiter
returns-in-CrcDelimiter g c =
    part_ended c.args.front.now c.frame.result c.check_agrees.result (sym c.in-CrcDelimiter.ensures.place) c.frame.ensures c.check_agrees.ensures
