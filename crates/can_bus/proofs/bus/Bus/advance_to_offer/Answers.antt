use Rattle.can_bus.proofs.BusAtRest.{call_rested}
use Rattle.can_bus.proofs.bus.Bus.advance_to_offer.Goals as goal

pub returns-then-resting-gt0-clause-call : goal.returns-then-resting-gt0-clause-call
returns-then-resting-gt0-clause-call g c =
    call_rested c.args.hits.now c.args.call.now c.resting-resting.result c.pass.new.self c.requires.call
    c.pass.ensures.time c.pass.ensures.latest c.pass.ensures.at c.pass.ensures.within c.pass.ensures.view
