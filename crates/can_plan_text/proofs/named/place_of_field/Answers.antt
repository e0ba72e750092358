use Rattle.std.proofs.Common.{◌≡◌, ◌≢◌, true, false, Some, length, refl, arith}
use Rattle.std.specs.Prelude.{slice_get}
use Rattle.std.proofs.lemmas.Option.{slice_get_read, slice_get_within}
use Rattle.can_plan_text.specs.declared.plan.Planned.{Planned}
use Rattle.can_plan_text.proofs.Pairs.{holds-next}
use Rattle.can_plan_text.proofs.named.place_of_field.Goals as goal

pub returns-then-eq : goal.returns-then-eq
returns-then-eq c =
    let messages = c.args.messages.now in
    let p : Planned = c.index-messages-place.result in
    let at : slice_get messages c.loop-place.place ≡ Some p = slice_get_read messages (length messages) c.loop-place.place p refl c.loop-place-test.true c.index-messages-place.is in
    (p, at, c.eq.ensures.equal.0 c.if-eq.true)

pub loop-place-preserved : goal.loop-place-preserved
loop-place-preserved c =
    let messages = c.args.messages.now in
    let p : Planned = c.index-messages-place.result in
    let other : p.message.field ≢ c.args.field = λ e. let yes : c.eq.result ≡ true = c.eq.ensures.equal.1 e in let no : c.eq.result ≡ false = c.if-eq.false in cc in
    holds-next (λ (q : Planned). q.message.field ≢ c.args.field) messages c.loop-place.place p c.loop-place-test.true c.index-messages-place.is other c.loop-place.invariant

pub returns : goal.returns
returns c = λ n p at.
    let within = slice_get_within c.args.messages.now n p at in
    c.loop-place.invariant n p (omega (arith, within)) at
