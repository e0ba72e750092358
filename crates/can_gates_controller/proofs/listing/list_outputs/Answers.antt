use Rattle.std.proofs.Common.{◌≡◌, ◌∙◌, ◌++◌, ◌∷◌, [], sym, ap, arith, add-one}
use Rattle.can_gates_controller.specs.Listed.{placed, output_list}
use Rattle.can_gates_controller.proofs.ListedLemmas.{placed_more}
use Rattle.can_gates_controller.proofs.ListPlaces.{out_whole}
use Rattle.can_gates_controller.proofs.listing.list_outputs.Goals as goal

pub loop-place-preserved : goal.loop-place-preserved
loop-place-preserved c =
    let l = c.loop-place in
    let word = output_list c.args.k.now in
    rw (add-one l.place) (
    c.in_ok-push.ensures.items
    ∙ ap (λ items. items ++ c.output_at.result ∷ []) l.invariant
    ∙ ap (λ k. placed l.place word ++ k ∷ []) c.output_at.ensures
    ∙ sym (placed_more l.place word))

pub returns : goal.returns
returns c =
    let l = c.loop-place in
    let e : l.place ≡ 124 = omega (arith, c.loop-place-test.false, l.auto.place-end) in
    l.invariant ∙ ap (λ n. placed n (output_list c.args.k.now)) e ∙ out_whole c.args.k.now
