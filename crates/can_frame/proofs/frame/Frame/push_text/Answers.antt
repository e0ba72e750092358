use Rattle.can_frame.proofs.AsciiText.{frame_text_is_ascii}
use Rattle.can_frame.proofs.Written.{parts_written}
use Rattle.can_frame.proofs.frame.Frame.push_text.Goals as goal

pub returns-clause-written : goal.returns-clause-written
returns-clause-written g c =
    parts_written c.args.self.now c.args.text.now.items c.identifier.new.text.items c.direction_and_dlc.new.text.items c.data.new.text.items
    c.identifier.ensures.written c.direction_and_dlc.ensures.written c.data.ensures.written

pub returns-clause-ascii : goal.returns-clause-ascii
returns-clause-ascii g c = frame_text_is_ascii c.args.self.now c.data.ensures.whole
