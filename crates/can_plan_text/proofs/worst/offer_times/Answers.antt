use Rattle.std.proofs.Common.{◌++◌, ◌∷◌, [], map, ap, sym, ◌∙◌, arith}
use Rattle.std.specs.List.{range_with_len}
use Rattle.std.proofs.lemmas.List.FromFn.{map-range_with_len_more}
use Rattle.std.proofs.lemmas.Nat.{mul-le}
use Rattle.can_plan_text.specs.Worst.{offer_time}
use Rattle.can_plan_text.proofs.worst.offer_times.Goals as goal

pub loop-number-preserved : goal.loop-number-preserved
loop-number-preserved c =
    let m = c.args.planned.now.message in
    let n = c.loop-number.number in
    let more = map-range_with_len_more (offer_time m) 0 n n (omega arith) in
    c.in_ok-push.ensures.items ∙ ap (λ t. t ++ c.offer_time.result ∷ []) c.loop-number.invariant
    ∙ ap (λ x. map (offer_time m) (range_with_len 0 n) ++ x ∷ []) c.offer_time.ensures ∙ sym more

pub offer_time-requires : goal.offer_time-requires
offer_time-requires c =
    let period = c.args.planned.now.message.period in
    let less = mul-le c.loop-number.number period c.arrivals-number-end.result period (omega (arith, c.loop-number-test.true)) (omega arith) in
    omega (arith, less, c.arrivals-number-end.ensures.whole)
