use Rattle.std.proofs.Common.{◌≡◌, subst, arith}
use Rattle.kit_documents.specs.declared.field.KitField.{KitField}
use Rattle.kit_documents.specs.declared.field.CaseField.TheVariants as of_case
use Rattle.document_values.specs.Demands.{IsFirstUnmet, demands_on_each}
use Rattle.kit_documents.specs.Cases.{forced_demands, in_case}
use Rattle.kit_documents.proofs.ForcedTimes.{recessive-met, recessive-unmet}
use Rattle.kit_documents.proofs.cases.timed.read_forced.Goals as goal

pub returns-in-Some-clause-unmet : goal.returns-in-Some-clause-unmet
returns-in-Some-clause-unmet c = λ strings ds said pairs wrong is.
    let same : in_case c.args.number (of_case.ForcedTime c.in-Some.place) ≡ wrong = cc in
    subst (λ (w : KitField). IsFirstUnmet w (demands_on_each (forced_demands c.args.number strings) 0 ds)) same
    (recessive-unmet c.args.number strings c.args.levels.now said 0 ds c.args.times.now c.in-Some.place c.in-Some.place (omega arith) c.in-Some.ensures.0 c.in-Some.ensures.1 c.in-Some.ensures.2 pairs)

pub returns-clause-met : goal.returns-clause-met
returns-clause-met c = λ strings ds said pairs. recessive-met c.args.number strings c.args.levels.now said 0 ds c.args.times.now c.in_default.ensures pairs
