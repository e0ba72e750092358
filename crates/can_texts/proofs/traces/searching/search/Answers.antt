use Rattle.std.proofs.Common.{arith}
use Rattle.can_texts.proofs.SearchSteps.{Searches-none, Searches-recessive, Searches-dominant}
use Rattle.can_texts.proofs.traces.searching.search.Goals as goal
use Rattle.can_texts.proofs.traces.searching.search.Goals.{then-is_recessive-2, else-is_recessive-2}

pub loop-now-init : goal.loop-now-init
loop-now-init c = record { within = omega arith; searched = Searches-none c.args.row c.args.digits.now }

pub loop-now-preserved : goal.loop-now-preserved
loop-now-preserved c =
    let now = c.loop-now.now in
    let digits = c.args.digits.now in
    record {
      within = omega (arith, c.loop-now-test.true);
      searched = elim c.if-is_recessive-2.branch [
        | then-is_recessive-2 w ↦
            Searches-recessive c.args.row now.row c.if-is_recessive-2.now digits now.taken c.loop-now-test.true (omega (arith, c.else-is_recessive.either, w.if-is_recessive-2.true, w.now-is))
            c.loop-now.invariant.searched w.if-is_recessive-2.true w.now-is
        | else-is_recessive-2 w ↦
            Searches-dominant c.args.row now.row c.if-is_recessive-2.now digits now.taken c.loop-now-test.true (omega (arith, w.now-is))
            c.loop-now.invariant.searched (omega (arith, c.else-not-is_recessive.either, w.if-is_recessive-2.false)) w.now-is
      ];
    }
