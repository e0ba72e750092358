use Rattle.std.proofs.Common.{◌≡◌, ◌-◌, ◌^◌, false}
use Rattle.std.specs.Io.KnownBytes.{Consumes}
use Rattle.can_stream.proofs.whole.read_whole.Given as goal

-- what was read so far is kept
abbrev pub invariant-loop-whole : goal.invariant-loop-whole
invariant-loop-whole g l =
    let source = g.R.Source in
    record {
      kept : Consumes (source.remaining l.fn.r) (source.remaining l.r) l.whole.items;
      unfailed : source.has_failed l.r ≡ false;
      unended : source.has_ended l.r ≡ false;
    }

abbrev pub decreases-loop-whole : goal.decreases-loop-whole
decreases-loop-whole g l = 2 ^ 63 - l.whole.len
