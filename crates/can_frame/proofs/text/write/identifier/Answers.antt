use Rattle.std.proofs.Common.{◌++◌, codes, ap, ◌∙◌, sym}
use Rattle.can_frame.specs.Text.{hex_digits}
use Rattle.can_frame.proofs.Written.{standard_written, extended_written}
use Rattle.can_frame.proofs.text.write.identifier.Goals as goal

pub returns-then-is_extended-clause-written : goal.returns-then-is_extended-clause-written
returns-then-is_extended-clause-written g c =
    c.append-then-is_extended-2.ensures ∙ ap (λ t. t ++ codes " ") (c.append-then-is_extended.ensures ∙ ap (λ t. t ++ c.digits-digits.result) c.append.ensures)
    ∙ extended_written c.args.frame.now c.raw.result c.args.text.now.items (c.raw.ensures.value ∙ ap (λ id. id.raw) c.id.ensures) (sym c.is_extended.ensures ∙ c.if-is_extended.true)
    (c.digits-digits.ensures ∙ ap (hex_digits 8) c.from.ensures)

pub returns-else-is_extended-clause-written : goal.returns-else-is_extended-clause-written
returns-else-is_extended-clause-written g c =
    c.append-else-is_extended.ensures ∙ ap (λ t. c.args.text.now.items ++ t)
    (standard_written c.args.frame.now c.raw.result (c.raw.ensures.value ∙ ap (λ id. id.raw) c.id.ensures) (sym c.is_extended.ensures ∙ c.if-is_extended.false)
    (c.digits-digits.ensures ∙ ap (hex_digits 8) c.from.ensures))
