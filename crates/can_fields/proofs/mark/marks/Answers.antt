use Rattle.std.proofs.Common.{[], ◌∷◌, ◌++◌, sym, ◌∙◌, ap}
use Rattle.can_code.specs.Front.{first_front}
use Rattle.can_fields.specs.Marks.{marks_behind, heard_to}
use Rattle.can_fields.proofs.MarkSteps.{marks_of-nothing, marks_of-recessive, marks_of-start}
use Rattle.can_fields.proofs.mark.marks.Goals as goal

pub returns-in_default : goal.returns-in_default
returns-in_default c = c.new-marks.ensures ∙ sym (marks_of-nothing c.args.levels.now c.in_default.ensures.cases)

pub returns-then-is_recessive : goal.returns-then-is_recessive
returns-then-is_recessive c =
    c.new-marks.ensures ∙ sym (marks_of-recessive c.args.levels.now c.in-Some.first.now c.in-Some.rest.now c.in-Some.ensures.cases.0 (sym c.is_recessive.ensures ∙ c.if-is_recessive.true))

pub returns : goal.returns
returns c =
    let rest = c.in-Some.rest.now in
    let start = marks_of-start c.args.levels.now c.in-Some.first.now rest c.in-Some.ensures.cases.0 (sym c.is_recessive.ensures ∙ c.if-is_recessive.false) in
    c.push_marks.ensures
    ∙ ap (λ m. m ++ marks_behind (heard_to first_front rest).unstuffed first_front rest) (c.push.ensures.items ∙ ap (λ m. m ++ c.bit.result ∷ []) c.new-marks.ensures)
    ∙ ap (λ y. y ∷ marks_behind (heard_to first_front rest).unstuffed first_front rest) c.bit.ensures
    ∙ sym start
