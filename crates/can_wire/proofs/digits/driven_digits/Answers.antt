use Rattle.std.proofs.Common.{◌-◌, ◌*◌, ◌%◌, ◌^◌, arith}
use Rattle.std.proofs.lemmas.List.{length-take-le}
use Rattle.can_wire.proofs.PackedLemmas.{moved-fits}
use Rattle.can_wire.proofs.DrivenDigits.{driven_few, driven_range}
use Rattle.can_wire.proofs.digits.driven_digits.Goals as goal

pub overflow_add-filled : goal.overflow_add-filled
overflow_add-filled c =
    let u = c.frame_number-unstuffed in
    let filling = (8 - u.result.count % 8) % 8 in
    omega (arith, moved-fits 128 u.result.count (85 % (1 * 2 ^ filling % 2 ^ 128)) u.result.number (omega (arith, u.ensures.few)) u.ensures.small)

pub returns-clause-digits : goal.returns-clause-digits
returns-clause-digits c =
    let u = c.frame_number-unstuffed in
    let end = c.put_stuffed-end.result in
    let put = c.put_stuffed-end.new.digits in
    driven_range c.args.frame.now u.result.count u.result.number u.ensures.levels u.ensures.small u.ensures.few put end c.put_stuffed-end.ensures.digits
    (length-take-le end put (omega (arith, c.put_stuffed-end.array_long, c.put_stuffed-end.ensures.bound))) c.copy_from_slice.new.self _ c.copy_from_slice.ensures.after

pub returns-clause-few : goal.returns-clause-few
returns-clause-few c =
    let u = c.frame_number-unstuffed in
    let end = c.put_stuffed-end.result in
    let put = c.put_stuffed-end.new.digits in
    driven_few c.args.frame.now u.result.count u.result.number u.ensures.levels u.ensures.small u.ensures.few put end c.put_stuffed-end.ensures.digits
    (length-take-le end put (omega (arith, c.put_stuffed-end.array_long, c.put_stuffed-end.ensures.bound)))
