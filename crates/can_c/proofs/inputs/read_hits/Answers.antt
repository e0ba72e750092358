use Rattle.std.proofs.Common.{◌++◌, ◌∷◌, [], Some, take, inr, sym, ap, arith, ◌∙◌}
use Rattle.std.proofs.lemmas.List.{map_more, take_all}
use Rattle.std.proofs.lemmas.Result.{err_from_is_err_and}
use Rattle.can_c.specs.PlainInputs.{hit_of_plain, hits_of_plain, kind_refusal}
use Rattle.can_c.proofs.InputLemmas.{first-here, none-at-all, none-more}
use Rattle.can_c.proofs.inputs.read_hits.Goals as goal

pub returns-in_err-hit-clause-refused : goal.returns-in_err-hit-clause-refused
returns-in_err-hit-clause-refused c =
    let p = err_from_is_err_and c.from_residual-in_err-hit.result c.from_residual-in_err-hit.ensures.1 in
    rw p.1 (inr (first-here kind_refusal c.args.plain.now c.loop-place.place _ c.in_err-hit.field-0.0 c.loop-place-test.true c.loop-place.invariant.none c.in_err-hit.ensures.refused ∙ ap Some (sym p.2)))

pub loop-place-preserved : goal.loop-place-preserved
loop-place-preserved c = record {
  hits = c.in_ok-push.ensures.items ∙ ap (λ xs. xs ++ c.in_ok-hit.field-0 ∷ []) c.loop-place.invariant.hits
      ∙ ap (λ x. hits_of_plain (take c.loop-place.place c.args.plain.now) ++ x ∷ []) c.in_ok-hit.ensures.hit
      ∙ sym (map_more hit_of_plain c.args.plain.now c.loop-place.place _ c.loop-place-test.true);
  none = none-more kind_refusal c.args.plain.now c.loop-place.place _ c.loop-place-test.true c.loop-place.invariant.none c.in_ok-hit.ensures.none;
}

pub returns-clause-hits : goal.returns-clause-hits
returns-clause-hits c = c.loop-place.invariant.hits ∙ ap hits_of_plain (take_all c.loop-place.place c.args.plain.now (omega arith))

pub returns-clause-none : goal.returns-clause-none
returns-clause-none c = none-at-all kind_refusal c.args.plain.now c.loop-place.place (omega arith) c.loop-place.invariant.none
