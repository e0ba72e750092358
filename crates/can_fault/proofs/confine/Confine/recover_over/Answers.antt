use Rattle.std.proofs.Common.{rules, ◌≡◌, ◌+◌, take, sym, ◌∙◌, ap, subst}
use Rattle.std.proofs.lemmas.List.{take_all, take_more}
use Rattle.can_frame.specs.declared.level.Level.TheVariants.{Dominant}
use Rattle.can_fault.specs.declared.state.State.TheVariants.{BusOff}
use Rattle.can_fault.specs.Counters.{state_of}
use Rattle.can_fault.specs.Recovery.{StaysBusOff, after_levels}
use Rattle.can_fault.proofs.RecoveryLemmas.{IsWaiting, IsWaiting-nil, IsWaiting-next, EndsBehind-next, IsWaiting-stays}
use Rattle.can_fault.proofs.confine.Confine.recover_over.Goals as goal

pub loop-index-init : goal.loop-index-init
loop-index-init c =
    let off : state_of c.args.self.now ≡ BusOff = search rules in
    IsWaiting-nil c.args.self.now c.state.ensures.kept off

pub loop-index-preserved : goal.loop-index-preserved
loop-index-preserved c =
    let p = c.loop-index in
    let l = c.args.levels.now in
    let front = take_more l p.index Dominant c.loop-index-test.true in
    subst (IsWaiting c.args.self.now (take (p.index + 1) l)) (sym c.recover.ensures.after)
    (IsWaiting-next c.args.self.now l p.index _ c.loop-index-test.true front p.self p.invariant (sym c.recover.ensures.value ∙ c.if-recover.false))

pub returns-then-recover-clause-ended : goal.returns-then-recover-clause-ended
returns-then-recover-clause-ended c =
    let p = c.loop-index in
    let l = c.args.levels.now in
    let front = take_more l p.index Dominant c.loop-index-test.true in
    EndsBehind-next c.args.self.now l p.index _ c.loop-index-test.true front p.self p.invariant (sym c.recover.ensures.value ∙ c.if-recover.true)

pub returns-clause-waiting : goal.returns-clause-waiting
returns-clause-waiting c =
    let p = c.loop-index in
    let whole = take_all p.index c.args.levels.now c.loop-index-test.false in
    λ none off. (
      subst (StaysBusOff c.args.self.now) whole (IsWaiting-stays c.args.self.now _ p.self p.invariant),
      p.invariant.here ∙ ap (after_levels c.args.self.now) whole,
    )
