use Rattle.std.proofs.Common.{◌≡◌, ◌+◌, ◌/◌, ◌^◌, ◌≤◌, arith, length, length-drop, take, drop, map, refl, sym, subst}
use Rattle.std.proofs.lemmas.List.{take_rest}
use Rattle.can_code.specs.Steps.{run_at}
use Rattle.can_frame.specs.Levels.{digit_of}
use Rattle.can_code.specs.Digits.{BeginWith, levels_up}
use Rattle.can_code.proofs.StepLemmas.{BeginWith-block, BeginWith-half, Unstuffs-begin}
use Rattle.can_code.proofs.unstuffing.unstuff_blocks.Goals as goal

pub loop-now-init : goal.loop-now-init
loop-now-init c = rw (c.begin-now.ensures)
    (record {
      row = c.requires.row;
      taken = Unstuffs-begin c.args.digits.now c.args.room (run_at c.args.row) _ (omega arith) (omega arith) refl;
    })

pub step_behind-requires-in-loop-now-clause-small : goal.step_behind-requires-in-loop-now-clause-small
step_behind-requires-in-loop-now-clause-small c =
    let digits = c.args.digits.now in
    let r = c.loop-now.now in
    let rest = take_rest digits r.taken in
    let chunk = c.in-Some.ensures.cases in
    let levels = c.levels_of-levels in
    let whole : r.taken + 16 ≤ length digits = omega (arith, rw rest at chunk.enough, length-drop r.taken digits, c.loop-now.invariant.taken.within) in
    let begins = BeginWith-block digits c.in-Some.block.now r.taken 8 levels.result.count levels.result.number whole (omega (arith, c.if-levels-lt-BLOCK.false)) levels.ensures.within (rw rest at chunk.same) levels.ensures.digits in
    (c.in-Some-step_behind.ensures.taken digits c.args.room (run_at c.args.row) c.loop-now.invariant.taken begins (omega (arith, c.loop-now-test.true)) c.requires.wide).small

pub returns-in_default-step_behind-2-clause-taken : goal.returns-in_default-step_behind-2-clause-taken
returns-in_default-step_behind-2-clause-taken c =
    let digits = c.args.digits.now in
    let r = c.loop-now.now in
    let rest = take_rest digits r.taken in
    let chunk = c.in-Some.ensures.cases in
    let levels = c.levels_of-levels in
    let whole : r.taken + 16 ≤ length digits = omega (arith, rw rest at chunk.enough, length-drop r.taken digits, c.loop-now.invariant.taken.within) in
    let begins = BeginWith-block digits c.in-Some.block.now r.taken 8 levels.result.count levels.result.number whole (omega (arith, c.if-levels-lt-BLOCK.false)) levels.ensures.within (rw rest at chunk.same) levels.ensures.digits in
    c.in-Some-step_behind.ensures.taken digits c.args.room (run_at c.args.row) c.loop-now.invariant.taken begins (omega (arith, c.loop-now-test.true)) c.requires.wide

pub loop-now-preserved : goal.loop-now-preserved
loop-now-preserved c =
    let digits = c.args.digits.now in
    let block = c.in-Some.block.now in
    let r = c.loop-now.now in
    let rest = take_rest digits r.taken in
    let chunk = c.in-Some.ensures.cases in
    let levels = c.levels_of-levels in
    let number = levels.result.number in
    let first = c.in-Some-step_behind in
    let whole : r.taken + 16 ≤ length digits = omega (arith, rw rest at chunk.enough, length-drop r.taken digits, c.loop-now.invariant.taken.within) in
    let at : block ≡ take 16 (drop r.taken digits) = rw rest at chunk.same in
    let count : levels.result.count ≡ 16 = omega (arith, c.if-levels-lt-BLOCK.false, levels.ensures.within) in
    let all : take 16 block ≡ map digit_of (levels_up 16 number) = subst (λ n. take n block ≡ map digit_of (levels_up n number)) count levels.ensures.digits in
    let begins = BeginWith-block digits block r.taken 8 levels.result.count number whole (omega (arith, count)) levels.ensures.within at levels.ensures.digits in
    let half : BeginWith (drop first.first.taken digits) 8 (number / 2 ^ 8) =
    subst (λ t. BeginWith (drop t digits) 8 (number / 2 ^ 8)) (sym first.ensures.all) (BeginWith-half digits block r.taken number whole at all) in
    record {
      row = c.in-Some-step_behind-2.ensures.row;
      taken = c.in-Some-step_behind-2.ensures.taken digits c.args.room (run_at c.args.row)
          (first.ensures.taken digits c.args.room (run_at c.args.row) c.loop-now.invariant.taken begins (omega (arith, c.loop-now-test.true)) c.requires.wide)
          half (omega (arith, first.ensures.few, c.loop-now-test.true)) c.requires.wide;
    }
