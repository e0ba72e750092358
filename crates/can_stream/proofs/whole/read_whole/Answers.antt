use Rattle.std.proofs.Common.{rules}
use Rattle.std.proofs.lemmas.Result.{err_from_is_err_and}
use Rattle.std.proofs.KnownBytes.{Consumes-trans}
use Rattle.can_stream.proofs.whole.read_whole.Goals as goal

pub returns-in_err-map_err-in-Ok-clause-part : goal.returns-in_err-map_err-in-Ok-clause-part
returns-in_err-map_err-in-Ok-clause-part g c =
    let p = err_from_is_err_and c.from_residual.result c.from_residual.ensures.1 in
    rw p.1 (_, Consumes-trans _ _ _ _ _ c.loop-whole.invariant.kept c.in-Ok.ensures.bytes.0)

pub returns-in-Err-clause-ended : goal.returns-in-Err-clause-ended
returns-in-Err-clause-ended g c = search rules

pub returns-in-Err-clause-at_end : goal.returns-in-Err-clause-at_end
returns-in-Err-clause-at_end g c = search rules

pub returns-in-Err-clause-read_failed : goal.returns-in-Err-clause-read_failed
returns-in-Err-clause-read_failed g c = search rules
