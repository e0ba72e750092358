use Rattle.std.specs.Prelude.{None}
use Rattle.can_mac.specs.State.{MacState}
use Rattle.can_mac.proofs.Landing.{passes-IsMac}
use Rattle.can_mac.proofs.machine.MediumAccess.takes_silently.Goals as goal

pub invariant_of-self : goal.invariant_of-self
invariant_of-self g c =
    let i = c.self.inside in
    let fields : MacState = record { phase = i.phase; role = i.role; overloads = i.overloads; counters = i.confine } in
    passes-IsMac fields c.self.invariant None tt c.args.seen
    c.hears_on_silently.result c.hears_on_silently.new.phase (λ on s. c.hears_on_silently.ensures.on on s None) c.hears_on_silently.ensures.on_bus c.hears_on_silently.ensures.unchanged

pub returns-in-StuffedPart-clause-kept : goal.returns-in-StuffedPart-clause-kept
returns-in-StuffedPart-clause-kept g c =
    let i = c.self.inside in
    let fields : MacState = record { phase = i.phase; role = i.role; overloads = i.overloads; counters = i.confine } in
    passes-IsMac fields c.self.invariant None tt c.args.seen
    c.hears_on_silently.result c.hears_on_silently.new.phase (λ on s. c.hears_on_silently.ensures.on on s None) c.hears_on_silently.ensures.on_bus c.hears_on_silently.ensures.unchanged
