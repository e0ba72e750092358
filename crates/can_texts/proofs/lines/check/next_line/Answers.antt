use Rattle.std.proofs.Common.{false, []}
use Rattle.can_texts.proofs.CheckSteps.{behind_start, line_fits, StopsChecking-from}
use Rattle.can_texts.proofs.lines.check.next_line.Goals as goal

pub open_fault-requires : goal.open_fault-requires
open_fault-requires g c =
    let reads = c.in-Err.ensures.reads in
    let old = c.args.lines.now in
    let new = c.next_line.new.self in
    rw (c.line.ensures, reads.keeps) (line_fits reads.line [] c.args.start new.inbox.taken (behind_start false _ _ old new c.args.start reads c.requires.start) c.in-Err.ensures.fits)

pub returns-in-Err-clause-err : goal.returns-in-Err-clause-err
returns-in-Err-clause-err g c =
    let is = rw (c.line.ensures) at c.open_fault.ensures in
    StopsChecking-from c.in-Err.fault c.open_fault.result c.args.start c.next_line.new.self.line.items _ c.next_line.new.self.inbox.taken c.in-Err.ensures.err is
