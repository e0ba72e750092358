use Rattle.std.proofs.Common.{◌≡◌, ◌<◌, length, ap, arith, ◌∙◌}
use Rattle.can_page.specs.Plain.{plain_times}
use Rattle.can_page.proofs.scenarios.tell_all_port_times.Goals as goal

pub returns-in-Ok-all_told_times-clause-times : goal.returns-in-Ok-all_told_times-clause-times
returns-in-Ok-all_told_times-clause-times c = λ is.
    let are : c.deref.result.now ≡ c.in-Ok-all_told_times.told.items = c.deref.ensures.value in
    let handed = c.hand_over.ensures.times is in
    (c.in-Ok.scenario, c.in-Ok-all_told_times.told.items, (c.in-Ok.ensures.found, c.in-Ok-all_told_times.ensures, handed.0 ∙ ap plain_times are, handed.1 ∙ ap length are))

pub returns-in-Ok-all_told_times-clause-room : goal.returns-in-Ok-all_told_times-clause-room
returns-in-Ok-all_told_times-clause-room c = λ is.
    let are : c.deref.result.now ≡ c.in-Ok-all_told_times.told.items = c.deref.ensures.value in
    let few : length c.args.times.now < length c.in-Ok-all_told_times.told.items = omega (arith, c.hand_over.ensures.room is, ap length are) in
    (c.in-Ok.scenario, c.in-Ok-all_told_times.told.items, (c.in-Ok.ensures.found, c.in-Ok-all_told_times.ensures, few))
