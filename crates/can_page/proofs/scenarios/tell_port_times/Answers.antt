use Rattle.std.proofs.Common.{◌≡◌, ◌<◌, ◌≤◌, length, ap, arith, ◌∙◌}
use Rattle.can_page.specs.Plain.{plain_times}
use Rattle.can_page.proofs.scenarios.tell_port_times.Goals as goal

pub returns-in-Ok-told_times-clause-times : goal.returns-in-Ok-told_times-clause-times
returns-in-Ok-told_times-clause-times c = λ is.
    let named : c.args.node < length c.in-Ok.scenario.ports.items = omega (arith, c.if-node-port_count.false, c.port_count.ensures) in
    let are : c.deref.result.now ≡ c.in-Ok-told_times.told.items = c.deref.ensures.value in
    let handed = c.hand_over.ensures.times is in
    (c.in-Ok.scenario, c.in-Ok-told_times.told.items, (c.in-Ok.ensures.found, named, c.in-Ok-told_times.ensures, handed.0 ∙ ap plain_times are, handed.1 ∙ ap length are))

pub returns-in-Ok-told_times-clause-room : goal.returns-in-Ok-told_times-clause-room
returns-in-Ok-told_times-clause-room c = λ is.
    let named : c.args.node < length c.in-Ok.scenario.ports.items = omega (arith, c.if-node-port_count.false, c.port_count.ensures) in
    let are : c.deref.result.now ≡ c.in-Ok-told_times.told.items = c.deref.ensures.value in
    let few : length c.args.times.now < length c.in-Ok-told_times.told.items = omega (arith, c.hand_over.ensures.room is, ap length are) in
    (c.in-Ok.scenario, c.in-Ok-told_times.told.items, (c.in-Ok.ensures.found, named, c.in-Ok-told_times.ensures, few))

pub returns-then-node-port_count-clause-port : goal.returns-then-node-port_count-clause-port
returns-then-node-port_count-clause-port c = λ _.
    let beyond : length c.in-Ok.scenario.ports.items ≤ c.args.node = omega (arith, c.if-node-port_count.true, c.port_count.ensures) in
    (c.in-Ok.scenario, (c.in-Ok.ensures.found, beyond))
