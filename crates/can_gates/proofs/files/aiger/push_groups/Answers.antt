use Rattle.std.proofs.Common.{◌≡◌, ◌-◌, ◌+◌, ◌/◌, ◌%◌, ◌++◌, ◌∷◌, [], inl, inr, sym, ◌∙◌, ap, arith, append_assoc}
use Rattle.can_gates.specs.Binary.{groups}
use Rattle.can_gates.proofs.Groups.{group_last, group_more}
use Rattle.can_gates.proofs.files.aiger.push_groups.Goals as goal
use Rattle.can_gates.proofs.files.aiger.push_groups.Goals.{then-loop-more-test+else-rest-ge128, else-loop-more-test}

pub returns : goal.returns
returns c = λ complete.
    let l = c.loop-more in
    let pushed = c.push_byte-2.ensures complete in
    let before = l.invariant pushed.0 in
    let last : groups l.more l.rest ≡ l.rest % 128 ∷ [] =
    group_last l.more l.rest (elim c.loop-more-test.branch [ then-loop-more-test+else-rest-ge128 w ↦ inr (omega (arith, w.if-rest-ge128.false)) | else-loop-more-test w ↦ inl (omega (arith, w.loop-more-test.false)) ]) in
    (before.0, pushed.1 ∙ ap (λ bytes. l.text.bytes.items ++ bytes) (sym last) ∙ before.1)

pub loop-more-preserved : goal.loop-more-preserved
loop-more-preserved c = λ complete.
    let l = c.loop-more in
    let pushed = c.push_byte.ensures complete in
    let before = l.invariant pushed.0 in
    let more = group_more l.more l.rest (omega (arith, c.loop-more-test.true)) (omega (arith, c.if-rest-ge128.true)) in
    (before.0, rw pushed.1 (append_assoc l.text.bytes.items ((128 + l.rest % 128) ∷ []) (groups (l.more - 1) (l.rest / 128)) ∙ ap (λ bytes. l.text.bytes.items ++ bytes) (sym more) ∙ before.1))
