use Rattle.std.specs.Prelude.{is_some}
use Rattle.std.proofs.Common.{◌≡◌, ◌<◌, true, false, length, refl, sym, ap, ◌∙◌, arith, rules}
use Rattle.can_c.specs.declared.handle.Handle.{Handle}
use Rattle.can_c.specs.Play.{held_by}
use Rattle.can_c.proofs.HandleLists.{hold-all, hold-next, hold-not, hold-unchanged}
use Rattle.can_c.proofs.play.all_hold.Goals as goal

pub loop-handle-init : goal.loop-handle-init
loop-handle-init c = record { unchanged = refl; some = refl }

pub loop-handle-preserved : goal.loop-handle-preserved
loop-handle-preserved c =
    let within : c.loop-handle.handle-index < length c.loop-handle.handles = omega arith in
    let held : c.holds.result ≡ true = search rules in
    hold-next c.args.handles.now c.loop-handle.handles c.loop-handle.handle-index c.handle-item.result c.holds.new.self c.holds.result c.loop-handle.invariant within
    c.handle-item.is (c.holds.ensures.answer ∙ ap (λ (h : Handle). is_some h.held) (sym c.handle-item.is)) (c.holds.ensures.unchanged ∙ ap held_by (sym c.handle-item.is)) held

pub returns-then-not-holds-clause-answer : goal.returns-then-not-holds-clause-answer
returns-then-not-holds-clause-answer c =
    let within : c.loop-handle.handle-index < length c.loop-handle.handles = omega arith in
    let lacks : c.holds.result ≡ false = search rules in
    hold-not c.args.handles.now c.loop-handle.handles c.loop-handle.handle-index c.handle-item.result c.holds.new.self c.holds.result c.loop-handle.invariant within
    c.handle-item.is (c.holds.ensures.answer ∙ ap (λ (h : Handle). is_some h.held) (sym c.handle-item.is)) (c.holds.ensures.unchanged ∙ ap held_by (sym c.handle-item.is)) lacks

pub returns-then-not-holds-clause-unchanged : goal.returns-then-not-holds-clause-unchanged
returns-then-not-holds-clause-unchanged c =
    let within : c.loop-handle.handle-index < length c.loop-handle.handles = omega arith in
    hold-unchanged c.args.handles.now c.loop-handle.handles c.loop-handle.handle-index c.handle-item.result c.holds.new.self c.holds.result c.loop-handle.invariant within
    c.handle-item.is (c.holds.ensures.answer ∙ ap (λ (h : Handle). is_some h.held) (sym c.handle-item.is)) (c.holds.ensures.unchanged ∙ ap held_by (sym c.handle-item.is))

pub returns-clause-answer : goal.returns-clause-answer
returns-clause-answer c = hold-all c.args.handles.now c.loop-handle.handles c.loop-handle.handle-index c.loop-handle.invariant (omega arith)
