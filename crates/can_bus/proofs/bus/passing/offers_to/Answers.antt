use Rattle.std.proofs.Common.{◌≡◌, ◌≤◌, Some, drop, length, arith, ap, refl}
use Rattle.std.specs.Prelude.{slice_get}
use Rattle.std.proofs.lemmas.Option.{slice_get_read}
use Rattle.can_bus.specs.declared.offer.Offer.{Offer}
use Rattle.can_bus.specs.Passing.{due_before}
use Rattle.can_bus.proofs.SenderRoom.{none-due}
use Rattle.can_bus.proofs.bus.passing.offers_to.Goals as goal

pub returns-else-offers-next : goal.returns-else-offers-next
returns-else-offers-next c =
    let offer = c.index-offers-next.result in
    let at : slice_get c.args.offers.now c.loop-next.next ≡ Some offer = slice_get_read c.args.offers.now (length c.args.offers.now) c.loop-next.next offer refl (omega (arith, c.loop-next-test.true)) c.index-offers-next.is in
    let late : c.args.end ≤ offer.time = let same = ap (λ (o : Offer). o.time) c.index-offers-next.is in omega (arith, c.if-offers-next.false, same) in
    let none : due_before c.args.node c.args.end (drop c.loop-next.next c.args.offers.now) ≡ 0 =
    none-due c.args.node c.args.end c.args.offers.now c.loop-next.next (λ n other from there. let later = c.requires c.loop-next.next n offer other from at there in omega (arith, late, later)) in
    omega (arith, c.loop-next.invariant.left, none)
