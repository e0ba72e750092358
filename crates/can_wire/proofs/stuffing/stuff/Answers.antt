use Rattle.std.proofs.Common.{◌≡◌, [], ◌++◌, rules, subst, sym, ◌∙◌, ap, arith}
use Rattle.std.proofs.lemmas.Grind.{common_steps}
use Rattle.std.proofs.lemmas.List.{append-nil, drop_all}
use Rattle.can_wire.specs.Stuffing.{Stuffs, stuffed, stuffed_from}
use Rattle.can_wire.proofs.StuffingLemmas.{length-stuffed, Stuffs-stuffed, stuffed-only, room_for_one, room_for_two}
use Rattle.can_wire.proofs.stuffing.stuff.Goals as goal

pub loop-level-init : goal.loop-level-init
unfolding stuffed
loop-level-init c = search rules

pub push-requires : goal.push-requires
push-requires c =
    let one = room_for_one c.loop-level.stuffed.items [] c.args.levels.now c.loop-level.last c.loop-level.run c.loop-level.level-index 147
    c.loop-level.invariant.rest (omega (arith, length-stuffed c.args.levels.now, c.requires)) c.loop-level-test.true in
    omega (arith, one)

pub push-requires-then-run-eq-LONGEST_RUN : goal.push-requires-then-run-eq-LONGEST_RUN
push-requires-then-run-eq-LONGEST_RUN c =
    let two = room_for_two c.loop-level.stuffed.items [] c.args.levels.now c.loop-level.last c.loop-level.run c.loop-level.level-index 147
    c.loop-level.invariant.rest (omega (arith, length-stuffed c.args.levels.now, c.requires)) c.loop-level-test.true (sym c.run_after-run.ensures ∙ c.if-run-eq-LONGEST_RUN.true) in
    omega (arith, two, c.push.ensures.len)

computed : (c : goal.After-loop-level) → c.loop-level.stuffed.items ≡ stuffed c.args.levels.now
computed c =
    let l = c.loop-level in
    sym (append-nil l.stuffed.items) ∙ ap (λ t. l.stuffed.items ++ stuffed_from l.last l.run t) (sym (drop_all l.level-index c.args.levels.now (omega (arith, c.loop-level-test.false)))) ∙ l.invariant.rest

pub returns-clause-stuffs : goal.returns-clause-stuffs
returns-clause-stuffs c = subst (Stuffs c.args.levels.now) (sym (computed c)) (Stuffs-stuffed c.args.levels.now)

pub returns-clause-only : goal.returns-clause-only
returns-clause-only c = λ b s. stuffed-only c.args.levels.now b s ∙ sym (computed c)

pub loop-level-preserved : goal.loop-level-preserved
loop-level-preserved c = grind (arith, common_steps)
