use Rattle.std.proofs.Common.{arith, length-drop}
use Rattle.std.proofs.lemmas.List.{take_rest}
use Rattle.std.proofs.lemmas.Result.{err_from_is_err_and}
use Rattle.can_stream.proofs.Known.{Appends-take, TakesFront-kept}
use Rattle.can_stream.proofs.outbox.write_all.Goals as goal

pub returns-in_err-taken-clause-err : goal.returns-in_err-taken-clause-err
returns-in_err-taken-clause-err g c =
    let p = err_from_is_err_and c.from_residual.result c.from_residual.ensures.1 in
    rw p.1 (TakesFront-kept _ _ _ c.args.bytes.now c.loop-taken.taken c.loop-taken.invariant.appends c.in_err-taken.ensures.err)

pub loop-taken-preserved : goal.loop-taken-preserved
loop-taken-preserved g c =
    let bytes = c.args.bytes.now in
    let taken = c.loop-taken.taken in
    let rest = take_rest bytes taken in
    record {
      within = omega (arith, c.in_ok-taken.ensures.bound, rw rest at c.in_ok-taken.ensures.bound, length-drop taken bytes);
      unfailed = c.in_ok-taken.ensures.failed;
      appends = Appends-take _ _ _ bytes taken c.in_ok-taken.field-0 c.loop-taken.invariant.appends (rw rest at c.in_ok-taken.ensures.ok);
    }
