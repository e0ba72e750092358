use Rattle.std.proofs.Common.{◌≡◌, ◌+◌, ◌<◌, List, ◌++◌, ◌∷◌, [], length, take, ap, sym, subst, ◌∙◌, arith}
use Rattle.std.proofs.lemmas.List.{take_all, take_more}
use Rattle.document_values.specs.Values.{ArePaired}
use Rattle.can_plan_text.specs.declared.plan.Planned.{Planned}
use Rattle.can_plan_text.specs.Worst.{IsOften}
use Rattle.can_plan_text.proofs.Pairs.{paired-push}
use Rattle.can_plan_text.proofs.worst.level_sequences.Goals as goal

pub loop-planned-preserved : goal.loop-planned-preserved
loop-planned-preserved c =
    let level = c.args.level.now in
    let n = c.loop-planned.planned-index in
    let p : Planned = c.planned-item.result in
    let within : n < length level = omega arith in
    let more : take (n + 1) level ≡ take n level ++ p ∷ [] = take_more level n p within ∙ ap (λ (q : Planned). take n level ++ q ∷ []) (sym c.planned-item.is) in
    rw c.in_ok-push.ensures.items
    (subst (λ (l : List Planned). ArePaired (IsOften c.args.long) l (c.loop-planned.sequences.items ++ c.in_ok-often.field-0 ∷ [])) (sym more)
    (paired-push (IsOften c.args.long) (take n level) c.loop-planned.sequences.items p c.in_ok-often.field-0 c.loop-planned.invariant c.in_ok-often.ensures))

pub returns : goal.returns
returns c =
    subst (λ (l : List Planned). ArePaired (IsOften c.args.long) l c.loop-planned.sequences.items) (take_all c.loop-planned.planned-index c.args.level.now (omega arith)) c.loop-planned.invariant
