use Rattle.std.proofs.Common.{◌≡◌, ◌+◌, ◌-◌, ◌≤◌, false, length, take}
use Rattle.can_texts.specs.Decoding.{HearsText}
use Rattle.can_texts.proofs.traces.decode.hear_to_end.Given as goal

abbrev pub invariant-loop-index : goal.invariant-loop-index
invariant-loop-index g l =
    let sink = g.W.Sink in
    record {
      within : l.index ≤ length l.bytes;
      behind : l.trace.place ≤ l.fn.trace.place + l.index;
      unfailed : sink.has_failed l.w ≡ false;
      hears : HearsText l.fn.trace l.trace (take l.index l.bytes) (sink.contents l.fn.w) (sink.contents l.w) l.fn.out l.out;
    }

abbrev pub decreases-loop-index : goal.decreases-loop-index
decreases-loop-index g l = length l.bytes - l.index
