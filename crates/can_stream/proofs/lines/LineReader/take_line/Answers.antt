use Rattle.std.proofs.Common.{take, ap, sym, ◌∙◌}
use Rattle.can_stream.specs.Inbox.{Received}
use Rattle.can_stream.proofs.LineLemmas.{SplitsLine-position, SplitsLine-no_position}
use Rattle.can_stream.proofs.lines.LineReader.take_line.Goals as goal

pub returns-in-Some-clause-splits : goal.returns-in-Some-clause-splits
returns-in-Some-clause-splits g c =
    let unread = c.args.self.now.inbox.unread in
    let n = c.in-Some.length in
    let found = rw c.unread-unread.ensures at (sym c.first_end.ensures ∙ c.in-Some.is) in
    let rest = ap (λ (b : Received). b.unread) c.consume.ensures in
    (take n unread, SplitsLine-position unread _ n found rest, rw c.unread-unread.ensures at c.keep_front.ensures)

pub returns-in-None-clause-splits : goal.returns-in-None-clause-splits
returns-in-None-clause-splits g c =
    let unread = c.args.self.now.inbox.unread in
    let none = rw c.unread-unread.ensures at (sym c.first_end.ensures ∙ c.in-None.is) in
    let rest = rw c.unread-unread.ensures at (ap (λ (b : Received). b.unread) c.consume-in-None.ensures) in
    (unread, SplitsLine-no_position unread _ none rest, rw c.unread-unread.ensures at c.keep_front-in-None.ensures)
