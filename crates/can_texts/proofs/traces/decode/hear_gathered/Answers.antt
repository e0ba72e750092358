use Rattle.std.proofs.Common.{take, arith}
use Rattle.std.proofs.lemmas.List.{length-take, take_all}
use Rattle.std.proofs.lemmas.Result.{err_from_is_err_and}
use Rattle.can_texts.proofs.GatheredDigits.{FailsToHear-gathered, HearsText-gathered, all_digits_heard, gathered_digits, gathered_few}
use Rattle.can_texts.proofs.traces.decode.hear_gathered.Goals as goal

pub hear_to_end-requires-clause-fits : goal.hear_to_end-requires-clause-fits
hear_to_end-requires-clause-fits g c =
    let bytes = c.args.bytes.now in
    let gathered = c.gather-gathered.result in
    let digits = c.gather-gathered.new.digits in
    let is = c.gather-gathered.ensures in
    omega (arith, length-take gathered.count digits, gathered_few bytes digits gathered is, is.within, c.requires.fits)

pub returns-in_err-hear_to_end-clause-err : goal.returns-in_err-hear_to_end-clause-err
returns-in_err-hear_to_end-clause-err g c =
    let gathered = c.gather-gathered.result in
    let p = err_from_is_err_and c.from_residual.result c.from_residual.ensures.1 in
    rw (p.1, p.2) (FailsToHear-gathered c.args.bytes.now c.gather-gathered.new.digits gathered c.gather-gathered.ensures c.args.trace.now c.hear_to_end.new.trace _ _ _ _ _ c.in_err-hear_to_end.ensures.err)

pub returns-clause-ok : goal.returns-clause-ok
returns-clause-ok g c =
    let bytes = c.args.bytes.now in
    let gathered = c.gather-gathered.result in
    let digits = c.gather-gathered.new.digits in
    let is = c.gather-gathered.ensures in
    let heard = c.in_ok-hear_to_end in
    let all = all_digits_heard (take gathered.count digits) heard.field-0 (gathered_digits bytes digits gathered is) heard.ensures.within heard.ensures.stops in
    HearsText-gathered bytes digits gathered is c.args.trace.now c.hear_to_end.new.trace _ _ _ _
    (rw (take_all heard.field-0 (take gathered.count digits) (omega (arith, all))) at heard.ensures.ok)

pub returns-clause-place : goal.returns-clause-place
returns-clause-place g c =
    let bytes = c.args.bytes.now in
    let gathered = c.gather-gathered.result in
    let digits = c.gather-gathered.new.digits in
    let heard = c.in_ok-hear_to_end in
    omega (arith, heard.ensures.place, heard.ensures.within, length-take gathered.count digits, gathered_few bytes digits gathered c.gather-gathered.ensures)
