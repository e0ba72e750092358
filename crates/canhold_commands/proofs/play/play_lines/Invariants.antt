use Rattle.std.proofs.Common.{◌≡◌, ◌+◌, ◌-◌, ◌^◌, ◌<◌, false, [], length}
use Rattle.std.specs.Prelude.{option_map}
use Rattle.can_node.proofs.NodePort.{node_port}
use Rattle.canhold_commands.proofs.Conversations.{IsTalking}
use Rattle.canhold_commands.proofs.play.play_lines.Given as goal

-- all lines so far have their replies, and nothing waits to be written
abbrev pub invariant-loop-answer : goal.invariant-loop-answer
invariant-loop-answer g l =
    let source = g.R.Source in
    let sink = g.W.Sink in
    let inbox = l.lines.inbox in
    record {
      talking : IsTalking (source.remaining l.fn.r) (source.remaining l.r) (sink.contents l.fn.w) (sink.contents l.w) (option_map node_port l.adapter.node) inbox.unread inbox.taken;
      empty : l.out ≡ [];
      reader_unfailed : source.has_failed l.r ≡ false;
      reader_unended : source.has_ended l.r ≡ false;
      writer_unfailed : sink.has_failed l.w ≡ false;
      fits : inbox.taken < 2 ^ 64;
    }

abbrev pub decreases-loop-answer : goal.decreases-loop-answer
decreases-loop-answer g l = (2 ^ 64 - l.lines.inbox.taken) + length l.lines.inbox.unread
