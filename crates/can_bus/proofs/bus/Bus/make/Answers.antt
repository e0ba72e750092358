use Rattle.std.specs.Prelude.{nat_le, not}
use Rattle.std.proofs.Common.{length, sym, ap, ◌∙◌}
use Rattle.can_node.specs.Ports.{with_offer}
use Rattle.can_bus.proofs.OfferLemmas.{made-here, full-here, offer-made}
use Rattle.can_bus.proofs.bus.Bus.make.Goals as goal

pub returns-clause-ports : goal.returns-clause-ports
returns-clause-ports g c =
    let S = g.P.Port.port in
    let port = c.index_mut.result.now in
    made-here S c.args.offer c.args.self.now.ports.items c.offer.new.self port c.requires.named
    ((offer-made c.args.offer.frame (S port) (S c.offer.new.self) c.offer.result c.offer.ensures.fits c.offer.ensures.taken c.offer.ensures.unchanged).0
    ∙ ap (λ p. with_offer c.args.offer.frame (S p)) c.index_mut.ensures.value)

pub returns-clause-answer : goal.returns-clause-answer
returns-clause-answer g c =
    let S = g.P.Port.port in
    let port = c.index_mut.result.now in
    let full = full-here S c.args.offer.node c.args.self.now.ports.items port c.requires.named in
    c.is_ok.ensures.value
    ∙ (offer-made c.args.offer.frame (S port) (S c.offer.new.self) c.offer.result c.offer.ensures.fits c.offer.ensures.taken c.offer.ensures.unchanged).1
    ∙ ap (λ p. not (nat_le (S p).queue_room (length (S p).queue))) c.index_mut.ensures.value
    ∙ ap not (sym full)
