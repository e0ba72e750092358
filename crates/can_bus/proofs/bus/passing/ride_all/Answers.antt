use Rattle.std.proofs.Common.{◌≡◌, ◌∷◌, ◌++◌, ap, ◌∙◌}
use Rattle.can_bus.proofs.PassingPorts.{rides-others}
use Rattle.can_bus.proofs.bus.passing.ride_all.Goals as goal

pub ride_others-requires : goal.ride_others-requires
ride_others-requires g c =
    let front = c.split_at_mut-before.result.0.now in
    let cut : c.args.ports.now ≡ c.split_at_mut-before.result.0.now ++ c.in-Some.sender.now ∷ c.in-Some.behind.now =
    c.split_at_mut-before.ensures.value ∙ ap (λ ys. front ++ ys) c.in-Some.ensures.cases.0 in
    let rides = rides-others g.P.Port.port c.args.passing.now.frame c.requires.whole c.in-Some.sender.now (g.met.P.Port.valid c.in-Some.sender.now) c.args.ports.now front c.in-Some.behind.now cut c.requires.passes
    c.args.levels.now c.requires.levels c.requires.some c.requires.within (g.P.Port.port c.turn_through.new.self) c.turn_through.ensures in
    record { whole = c.requires.whole; levels = c.requires.levels; some = c.requires.some; within = c.requires.within; passes = rides.0; leader = rides.2 }

pub ride_others-requires-2 : goal.ride_others-requires-2
ride_others-requires-2 g c =
    let front = c.split_at_mut-before.result.0.now in
    let cut : c.args.ports.now ≡ c.split_at_mut-before.result.0.now ++ c.in-Some.sender.now ∷ c.in-Some.behind.now =
    c.split_at_mut-before.ensures.value ∙ ap (λ ys. front ++ ys) c.in-Some.ensures.cases.0 in
    let rides = rides-others g.P.Port.port c.args.passing.now.frame c.requires.whole c.in-Some.sender.now (g.met.P.Port.valid c.in-Some.sender.now) c.args.ports.now front c.in-Some.behind.now cut c.requires.passes
    c.args.levels.now c.requires.levels c.requires.some c.requires.within (g.P.Port.port c.turn_through.new.self) c.turn_through.ensures in
    record { whole = c.requires.whole; levels = c.requires.levels; some = c.requires.some; within = c.requires.within; passes = rides.1; leader = rides.2 }
