use Rattle.std.proofs.Common.{◌+◌, ◌≤◌, arith, length, length-drop}
use Rattle.std.proofs.lemmas.List.{take_rest}
use Rattle.can_code.specs.Steps.{run_at}
use Rattle.can_code.proofs.StepLemmas.{BeginWith-block}
use Rattle.can_code.proofs.unstuffing.unstuff_rows.Goals as goal

pub loop-now-preserved : goal.loop-now-preserved
loop-now-preserved c =
    let digits = c.args.digits.now in
    let r = c.loop-now.now in
    let rest = take_rest digits r.taken in
    let chunk = c.in-Some.ensures.cases in
    let levels = c.levels_of-levels in
    let whole : r.taken + 16 ≤ length digits = omega (arith, rw rest at chunk.enough, length-drop r.taken digits, c.loop-now.invariant.taken.within) in
    let begins = BeginWith-block digits c.in-Some.block.now r.taken c.min-count.result levels.result.count levels.result.number whole (omega (arith, c.min.ensures, c.min-count.ensures)) levels.ensures.within (rw rest at chunk.same) levels.ensures.digits in
    record {
      row = c.in-Some-step_behind.ensures.row;
      taken = c.in-Some-step_behind.ensures.taken digits c.args.room (run_at c.args.row) c.loop-now.invariant.taken begins
          (omega (arith, c.min-count.ensures, c.loop-now-test.true)) c.requires.wide;
    }
