use Rattle.std.proofs.Common.{Option, None}
use Rattle.std.specs.Option.{option_copied}
use Rattle.can_mac.specs.declared.moves.Move.{Move}
use Rattle.can_mac.specs.State.{MacPhase, MacState}
use Rattle.can_mac.proofs.Landing.{lands-IsMac}
use Rattle.can_mac.proofs.step.make_in_place.Goals as goal

pub returns-clause-kept : goal.returns-clause-kept
returns-clause-kept g c =
    let a = c.args in
    let m : MacState = record { phase = a.phase.now; role = a.role.now; overloads = a.overloads.now; counters = a.confine.now } in
    let moved = c.move_in_place-outcome.new in
    let made : Move (Option MacPhase) = record { phase = None; role = moved.role; overloads = moved.overloads; cause = c.in-Some.outcome.cause; event = c.in-Some.outcome.event } in
    lands-IsMac m c.requires.mac c.requires.on_bus (option_copied a.waiting) c.requires.waiting a.seen
    c.is_passive-passive.result c.is_passive-passive.ensures moved.phase made c.in-Some.ensures.made
    (record { phase = c.land.new.phase; role = c.land.new.role; overloads = moved.overloads; counters = c.land.new.confine }) c.land.ensures.state
