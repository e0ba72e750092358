use Rattle.std.proofs.Common.{◌≡◌, Some, sym, ◌∙◌, ap, subst}
use Rattle.std.proofs.Math.Dec.{eqb}
use Rattle.std.proofs.lemmas.Bool.{eqb-false}
use Rattle.std.specs.Option.{option_eq}
use Rattle.can_code.specs.declared.front.Place.TheVariants.{Bit}
use Rattle.can_code.specs.Front.{FrontParts, next_place}
use Rattle.can_code.proofs.FrontLemmas.{has_check-told, next_place-bit}
use Rattle.can_code.proofs.front.Front.next_place.Goals as goal

pub returns-else-eq-clause-place : goal.returns-else-eq-clause-place
returns-else-eq-clause-place g c =
    let inside = c.self.inside in
    let front : FrontParts = record { unstuffed = g.B.FrameBits.levels inside.bits; last = inside.run.last; run = inside.run.run } in
    let partial =
    has_check-told front.unstuffed inside.length c.self.invariant.1 ∙ ap (λ n. option_eq eqb inside.length (Some n)) (sym c.len.ensures) ∙ sym c.eq.ensures ∙ c.if-eq.false in
    subst (λ f. Bit ≡ next_place f) c.self.view_is (sym (next_place-bit front (eqb-false inside.run.run 5 (sym c.is_longest.ensures ∙ c.if-is_longest.false)) partial))
