use Rattle.std.proofs.Common.{◌≡◌, ap, rules, Err}
use Rattle.kit_documents.specs.declared.field.KitField.{KitField}
use Rattle.kit_documents.specs.declared.fault.KitFault.{KitFault}
use Rattle.kit_documents.specs.declared.fault.KitFault.TheVariants as kit
use Rattle.canhold_commands.specs.declared.fault.CanholdFault.TheVariants.{Field}
use Rattle.canhold_commands.specs.Status.{kit_fault_of}
use Rattle.canhold_commands.proofs.answering.answer_document.Goals as goal

-- the invalid field is one of the document
field-of : (fault : KitFault) (wrong : KitField) → kit_fault_of fault ≡ Field wrong → fault ≡ kit.Field wrong
field-of (kit.Field other) wrong is = ap kit.Field (cc)
field-of kit.Memory wrong is = absurd (cc)

pub returns-in_err-answer-clause-field : goal.returns-in_err-answer-clause-field
returns-in_err-answer-clause-field g c = λ wrong is.
    let at : c.in_err-answer.field-0.0 ≡ kit.Field wrong = field-of c.in_err-answer.field-0.0 wrong (search rules) in
    let first = c.in_err-answer.ensures.wrong wrong (ap Err at) in
    search (rules, first)
