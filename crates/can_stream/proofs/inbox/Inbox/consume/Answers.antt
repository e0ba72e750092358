use Rattle.std.proofs.Common.{◌+◌, ◌≤◌, ℕ, List, sym, ap, arith}
use Rattle.std.proofs.lemmas.List.{length-take, length-drop}
use Rattle.can_stream.proofs.Ranges.{drop-slice_range}
use Rattle.can_stream.proofs.inbox.Inbox.consume.Goals as goal

pub returns : goal.returns
returns c =
    let a = c.self.inside in
    let room = rw (← c.self.view_is) at c.requires in
    let inside : a.start + c.args.count ≤ a.end = omega (arith, room, length-take {A = ℕ}, length-drop {A = ℕ}) in
    rw (← c.self.view_is) (ap (λ (unread : List ℕ). record { unread = unread; taken = a.taken }) (sym (drop-slice_range a.bytes a.start a.end c.args.count inside)))
