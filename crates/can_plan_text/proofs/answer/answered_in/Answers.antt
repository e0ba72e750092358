use Rattle.std.proofs.Common.{subst, sym}
use Rattle.std.specs.Prelude.{IfOk}
use Rattle.can_plan_text.specs.declared.answer.Answer.{Answer}
use Rattle.can_plan_text.specs.declared.answer.Form.{Form}
use Rattle.can_plan_text.specs.Details.{IsAnswerIn}
use Rattle.can_plan_text.proofs.answer.answered_in.Goals as goal

pub returns-in-Brief-clause-found : goal.returns-in-Brief-clause-found
returns-in-Brief-clause-found c =
    subst (λ (f : Form). IfOk c.answered.result (λ (answer : Answer). IsAnswerIn f c.args.text.now answer.bytes.items answer.late)) (sym c.in-Brief.is) c.answered.ensures.found

pub returns-in-Detailed-clause-found : goal.returns-in-Detailed-clause-found
returns-in-Detailed-clause-found c =
    subst (λ (f : Form). IfOk c.detailed.result (λ (answer : Answer). IsAnswerIn f c.args.text.now answer.bytes.items answer.late)) (sym c.in-Detailed.is) c.detailed.ensures.found
