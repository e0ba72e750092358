use Rattle.std.proofs.Common.{◌≡◌, subst, ap, sym, ◌∙◌}
use Rattle.can_frame.specs.declared.level.Level.TheVariants.{Recessive}
use Rattle.can_frame.specs.Parts.{IsFrame}
use Rattle.can_wire.specs.Wire.{head, IsSpelling, driven}
use Rattle.can_wire.specs.Heard.{spelling}
use Rattle.can_wire.proofs.WireLemmas.{spelling_of, IsSpelling-spelling_of, IsSpelling-only, driven-spelling_of, length-head-le, length-stuffed_part-le, length-wire-le}
use Rattle.can_wire.proofs.SpellingLemmas.{spelling-unacknowledged}
use Rattle.can_wire.proofs.encoding.encode.Goals as goal
use Rattle.can_wire.proofs.encoding.encode.Goals.{After-respell}

levels : (c : After-respell) → c.respell.result.items ≡ driven c.args.frame.now
levels c = c.respell.ensures.computed ∙ ap spelling c.unacknowledged.ensures ∙ spelling-unacknowledged c.args.frame.now

spelled : (c : After-respell) → c.respell.result.items ≡ spelling_of (head c.args.frame.now) Recessive Recessive
spelled c = levels c ∙ driven-spelling_of c.args.frame.now

whole : (c : After-respell) → IsFrame c.args.frame.now
whole c = subst (λ h. IsFrame h.frame) c.unacknowledged.ensures c.respell.ensures.spells.heard.frame

pub returns-clause-levels : goal.returns-clause-levels
returns-clause-levels c = levels c

pub returns-clause-spelled : goal.returns-clause-spelled
returns-clause-spelled c =
    let u = head c.args.frame.now in
    subst (IsSpelling u Recessive Recessive) (sym (spelled c)) (IsSpelling-spelling_of u Recessive Recessive)

pub returns-clause-only : goal.returns-clause-only
returns-clause-only c = λ w s. IsSpelling-only (head c.args.frame.now) Recessive Recessive w s ∙ sym (spelled c)

pub returns-clause-head_bound : goal.returns-clause-head_bound
returns-clause-head_bound c = length-head-le c.args.frame.now (whole c)

pub returns-clause-stuffed_bound : goal.returns-clause-stuffed_bound
returns-clause-stuffed_bound c = length-stuffed_part-le c.args.frame.now (whole c)

pub returns-clause-wire_bound : goal.returns-clause-wire_bound
returns-clause-wire_bound c = length-wire-le c.args.frame.now (whole c)
