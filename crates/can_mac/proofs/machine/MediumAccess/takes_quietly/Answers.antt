use Rattle.std.specs.Option.{option_copied}
use Rattle.can_mac.specs.State.{MacState}
use Rattle.can_mac.proofs.Landing.{passes-IsMac}
use Rattle.can_mac.proofs.machine.MediumAccess.takes_quietly.Goals as goal

pub invariant_of-self : goal.invariant_of-self
invariant_of-self g c =
    let i = c.self.inside in
    let fields : MacState = record { phase = i.phase; role = i.role; overloads = i.overloads; counters = i.confine } in
    passes-IsMac fields c.self.invariant (option_copied c.args.waiting) c.within_limits.ensures c.args.seen
    c.goes_on_quietly.result c.goes_on_quietly.new.phase c.goes_on_quietly.ensures.on c.goes_on_quietly.ensures.on_bus c.goes_on_quietly.ensures.unchanged

pub returns-clause-kept : goal.returns-clause-kept
returns-clause-kept g c =
    let i = c.self.inside in
    let fields : MacState = record { phase = i.phase; role = i.role; overloads = i.overloads; counters = i.confine } in
    passes-IsMac fields c.self.invariant (option_copied c.args.waiting) c.within_limits.ensures c.args.seen
    c.goes_on_quietly.result c.goes_on_quietly.new.phase c.goes_on_quietly.ensures.on c.goes_on_quietly.ensures.on_bus c.goes_on_quietly.ensures.unchanged
