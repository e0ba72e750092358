use Rattle.std.specs.Option.{option_copied}
use Rattle.can_mac.specs.State.{MacState}
use Rattle.can_mac.proofs.Landing.{lands-IsMac}
use Rattle.can_mac.proofs.step.make_move.Goals as goal

pub returns-clause-kept : goal.returns-clause-kept
returns-clause-kept g c =
    let a = c.args in
    let m : MacState = record { phase = a.phase.now; role = a.role.now; overloads = a.overloads.now; counters = a.confine.now } in
    let made = c.next_move-made in
    lands-IsMac m c.requires.mac c.requires.on_bus (option_copied a.waiting) c.requires.waiting a.seen
    c.is_passive.result c.is_passive.ensures made.new.phase made.result made.ensures
    (record { phase = c.land.new.phase; role = c.land.new.role; overloads = made.result.overloads; counters = c.land.new.confine }) c.land.ensures.state
