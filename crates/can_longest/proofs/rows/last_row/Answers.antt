use Rattle.std.proofs.Common.{◌≡◌, ◌∙◌, sym, subst, ap, arith, length, length-append, slice_get}
use Rattle.can_frame.specs.Levels.{bits_of}
use Rattle.can_longest.specs.declared.rows.Ahead.{Ahead}
use Rattle.can_longest.specs.ToCome.{IsAhead}
use Rattle.can_longest.proofs.Places.{IsAhead-none, pushed, turned_none}
use Rattle.can_longest.proofs.rows.last_row.Goals as goal

pub loop-check-preserved : goal.loop-check-preserved
loop-check-preserved c =
    let l = c.loop-check in
    let a : Ahead = record { one = c.check_levels.result; two = c.check_levels-in-loop-check.result; three = c.check_levels-in-loop-check-2.result; four = c.check_levels-in-loop-check-3.result } in
    let here = IsAhead-none (bits_of 15 l.check) a c.check_levels.ensures c.check_levels-in-loop-check.ensures c.check_levels-in-loop-check-2.ensures c.check_levels-in-loop-check-3.ensures in record {
      full = omega (arith, ap length c.in_ok-push.ensures.items, length-append l.ahead.items, l.invariant.full);
      each = λ p b at. pushed (λ n x. IsAhead 0 (bits_of 15 n) x) l.ahead.items a l.invariant.each (subst (λ n. IsAhead 0 (bits_of 15 n) a) (sym l.invariant.full) here) p b (sym (ap (λ t. slice_get t p) c.in_ok-push.ensures.items) ∙ at);
    }

pub returns : goal.returns
returns c =
    let all : c.loop-check.check ≡ 32768 = omega (arith, c.loop-check.auto.check-end, c.loop-check-test.false) in
    record { turned = turned_none; range = omega arith; full = c.loop-check.invariant.full ∙ all; each = c.loop-check.invariant.each }
