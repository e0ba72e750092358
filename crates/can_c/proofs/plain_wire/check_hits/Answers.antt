use Rattle.std.proofs.Common.{Some, sym, ap, subst, ◌≢◌, arith, ◌∙◌}
use Rattle.std.proofs.lemmas.Result.{err_from_is_err_and}
use Rattle.can_c.specs.declared.status.Status.{Status}
use Rattle.can_c.specs.declared.status.Status.TheVariants.{Done}
use Rattle.can_c.specs.PlainWires.{struck_refusal}
use Rattle.can_c.proofs.InputLemmas.{first-here, none-at-all, none-more}
use Rattle.can_c.proofs.plain_wire.check_hits.Goals as goal

pub returns-in_err-check-clause-why : goal.returns-in_err-check-clause-why
returns-in_err-check-clause-why c =
    let p = err_from_is_err_and c.from_residual.result c.from_residual.ensures.1 in
    rw p.1 (first-here (struck_refusal c.args.count) c.args.hits.now c.loop-place.place _ c.in_err-check.field-0.0 c.loop-place-test.true c.loop-place.invariant c.in_err-check.ensures.refused ∙ ap Some (sym p.2))

pub returns-in_err-check-clause-named : goal.returns-in_err-check-clause-named
returns-in_err-check-clause-named c =
    let p = err_from_is_err_and c.from_residual.result c.from_residual.ensures.1 in
    rw p.1 (subst (λ (why : Status). why ≢ Done) (sym p.2) c.in_err-check.ensures.named)

pub loop-place-preserved : goal.loop-place-preserved
loop-place-preserved c = none-more (struck_refusal c.args.count) c.args.hits.now c.loop-place.place _ c.loop-place-test.true c.loop-place.invariant c.in_ok-check.ensures.none

pub returns-clause-none : goal.returns-clause-none
returns-clause-none c = none-at-all (struck_refusal c.args.count) c.args.hits.now c.loop-place.place (omega arith) c.loop-place.invariant
