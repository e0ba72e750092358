use Rattle.std.proofs.Common.{Result, Ok, Err, OnErr, IfErr}
use Rattle.std.proofs.lemmas.Result.{on_ok_weaker}
use Rattle.can_frame.specs.Levels.{digit_of}
use Rattle.can_stream.specs.declared.fault.TraceFault.{TraceFault}
use Rattle.can_texts.proofs.DecodeSteps.{HearsText-found, HearsText-level}
use Rattle.can_texts.proofs.GatheredDigits.{FailsToHear-found, digit_is}
use Rattle.can_texts.proofs.traces.decode.hear_level.Goals as goal

-- what follows from three clauses on one error
of_err : {T A B : Type 0} {P Q : TraceFault → Type 0} (r : Result T TraceFault) → (A → B → (e : TraceFault) → P e → Q e) → OnErr r A → OnErr r B → IfErr r P → IfErr r Q
of_err (Ok x) f a b p = tt
of_err (Err e) f a b p = f a b e p

pub returns-in-Some-clause-ok : goal.returns-in-Some-clause-ok
returns-in-Some-clause-ok g c =
    let level = c.args.level in
    on_ok_weaker c.put_finding.result
    (λ passes. HearsText-found c.args.trace.now c.hear.new.self (digit_of level) level (digit_is level) _ _ _ _ c.in-Some.finding c.in-Some.ensures.hears passes) c.put_finding.ensures.ok

pub returns-in-Some-clause-err : goal.returns-in-Some-clause-err
returns-in-Some-clause-err g c =
    of_err c.put_finding.result
    (λ front none e is. FailsToHear-found c.args.trace.now c.hear.new.self c.args.level _ _ _ _ c.in-Some.finding e c.in-Some.ensures.hears front none is)
    c.put_finding.ensures.err c.put_finding.ensures.dropped c.put_finding.ensures.fault

pub returns-in-None-clause-ok : goal.returns-in-None-clause-ok
returns-in-None-clause-ok g c = HearsText-level _ _ (digit_of c.args.level) c.args.level (digit_is c.args.level) _ _ c.in-None.ensures.hears
