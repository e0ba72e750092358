use Rattle.std.proofs.Common.{sym, ◌∙◌, ap, inl, inr}
use Rattle.std.proofs.lemmas.Bool.{true_from_ne_false}
use Rattle.std.specs.Option.{is_some}
use Rattle.can_wire.specs.Layout.{heard_of}
use Rattle.can_code.proofs.LayoutWrite.{IsHeard-heard_of}
use Rattle.can_code.proofs.reading.heard.Goals as goal

pub unwrap-requires : goal.unwrap-requires
unfolding heard_of
unwrap-requires g c =
    let u = g.B.FrameBits.levels c.args.bits.now in
    let is = IsHeard-heard_of u c.args.acked c.args.last in
    true_from_ne_false (is_some c.new.result) (λ none.
    let why = c.new.ensures.none.0 none in
    let standard = ap (λ f. f.id.extended) (sym c.frame.ensures) ∙ why.0 in
    let srr = c.srr.ensures ∙ is.srr standard in
    let r1 = c.r1.ensures ∙ is.r1 standard in
    elim why.1 [ inl dominant ↦ cc | inr recessive ↦ cc ])

pub returns : goal.returns
unfolding heard_of
returns g c = let parts = rw c.unwrap.ensures at c.new.ensures.some in cc
