use Rattle.std.proofs.Common.{◌≤◌, ap, sym, ◌∙◌, arith, length}
use Rattle.std.proofs.lemmas.List.{get_or_past}
use Rattle.can_frame.specs.declared.level.Level.TheVariants.{Dominant}
use Rattle.can_wire.specs.Layout.{level_at}
use Rattle.can_wire.specs.Wire.{unstuffed}
use Rattle.can_code.proofs.sending.Sending.level_at.Goals as goal

pub returns-then-place-len : goal.returns-then-place-len
returns-then-place-len c =
    c.level_at.ensures ∙ ap (λ u. level_at u c.args.place) (sym c.self.invariant.1 ∙ ap unstuffed c.self.view_is)

pub returns-else-place-len : goal.returns-else-place-len
returns-else-place-len c =
    let same = sym c.self.invariant.1 ∙ ap unstuffed c.self.view_is in
    let past : length c.self.inside.levels ≤ c.args.place = omega (arith, c.len.ensures) in
    sym (get_or_past c.self.inside.levels c.args.place Dominant past) ∙ ap (λ u. level_at u c.args.place) same
