use Rattle.std.proofs.Common.{◌≡◌, ◌+◌, ◌∷◌, ◌++◌, [], take, sym, subst, ap, ◌∙◌}
use Rattle.std.proofs.lemmas.List.{take_more}
use Rattle.can_conform.specs.Walks.{AreMarked}
use Rattle.can_conform.proofs.OutlookLemmas.{marked-kept, marked-push}
use Rattle.can_conform.proofs.outlook.mark_all.Goals as goal

pub loop-one-preserved : goal.loop-one-preserved
loop-one-preserved g c =
    let list = c.args.list.now in
    let place = c.loop-one.one-index in
    let one = c.one-item.result in
    let t = c.args.time in
    let last = c.args.last in
    let more : take (place + 1) list ≡ take place list ++ one ∷ [] = take_more list place one c.loop-one-test.true ∙ ap (λ x. take place list ++ x ∷ []) (sym c.one-item.is) in
    let marks = c.mark.new.marks in
    let before = marked-kept (take place list) t last _ marks c.mark.ensures.kept c.loop-one.invariant.marked in
    record {
      marked = subst (λ xs. AreMarked xs t last marks) (sym more) (marked-push (take place list) one t last marks before c.mark.ensures.marked);
      kept = λ n is. c.mark.ensures.kept n (c.loop-one.invariant.kept n is);
    }
