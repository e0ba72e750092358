use Rattle.std.proofs.lemmas.Result.{err_from_is_err_and}
use Rattle.can_texts.proofs.CheckEndings.{Told-total, Told-untotalled}
use Rattle.can_texts.proofs.lines.check.check_all.Goals as goal

pub returns-in_err-put_total-clause-told : goal.returns-in_err-put_total-clause-told
returns-in_err-put_total-clause-told g c =
    let p = err_from_is_err_and c.from_residual-in_err-put_total.result c.from_residual-in_err-put_total.ensures.1 in
    let fails = c.in_err-put_total.ensures in
    rw (p.1, p.2, fails.fault, fails.dropped) (Told-untotalled _ _ _ _ _ _ _ _ c.in_ok-tally.tally _ c.in_ok-tally.ensures.ended c.in_ok-tally.ensures.told fails.err)

pub returns-clause-told : goal.returns-clause-told
returns-clause-told g c =
    Told-total _ _ _ _ _ _ _ _ c.in_ok-tally.tally (g.R.Source.has_ended c.check_each.new.r) _ c.in_ok-tally.ensures.told c.in_ok-put_total.ensures.ok
